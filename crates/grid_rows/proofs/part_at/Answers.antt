-- `grid_rows::part_at` meets its contract.
-- Assumes nothing.
use mathlib.Core.Path.{◌≡◌, sym, ◌∙◌, subst}
use Prim.Native.Nat.{◌*◌, ◌≤◌}
use native.Mathlib.Nat.{mul-pos}
use borrow.Author.Rules.{rules}
use lib.IntN.{ℤ, nat_abs}
use mir.Syntax.{w64}
use mir.Val.{to_z, of_z}
use Rattle.arith.proofs.Back.{held}
use Rattle.grid_cell.specs.Inner.{sum_of}
use Rattle.grid_cell.proofs.Sum.{area-most, sum-most, fits-weight}
use Rattle.grid_cell.proofs.Held.{says-held, sum-held}
use Rattle.grid_rows.specs.Private.{Split}
use Rattle.grid_rows.proofs.part_at.Goals as goal

pub part_of-requires : goal.part_of-requires
part_of-requires c = let sum : to_z w64 (of_z w64 c.sum_in.result) ≡ sum_of c.args.factor c.args.h c.args.w c.args.y c.args.x c.args.n = let a = c.args in
    held c.sum_in.result c.sum_in.type_inv ∙ c.sum_in.ensures
    ∙ sym (sum-held a.factor a.n a.h a.w a.y a.x (says-held a.factor a.n a.h a.w a.y a.x c.requires.0 c.requires.1 c.requires.2)) in
    let p = c.requires in (
      subst (λ (z : ℤ). nat_abs z ≤ 2560 * (c.args.h * c.args.w)) (sym sum) (sum-most p.0 c.args.factor c.args.n p.2 p.1),
      mul-pos p.0.high.0 p.0.wide.0,
      area-most p.0,
    )

pub returns : goal.returns
returns c = let sum : to_z w64 (of_z w64 c.sum_in.result) ≡ sum_of c.args.factor c.args.h c.args.w c.args.y c.args.x c.args.n = let a = c.args in
    held c.sum_in.result c.sum_in.type_inv ∙ c.sum_in.ensures
    ∙ sym (sum-held a.factor a.n a.h a.w a.y a.x (says-held a.factor a.n a.h a.w a.y a.x c.requires.0 c.requires.1 c.requires.2)) in
    (subst (λ (z : ℤ). Split (c.args.h * c.args.w) z c.part_of.result) sum c.part_of.ensures.0, c.part_of.ensures.1)

pub overflow_mul-h : goal.overflow_mul-h
overflow_mul-h c = fits-weight (area-most c.requires.0)
