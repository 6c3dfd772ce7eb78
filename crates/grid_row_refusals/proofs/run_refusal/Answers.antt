-- `grid_row_refusals::run_refusal` meets its contract.
-- Assumes nothing.
use mathlib.Core.Path.{◌≡◌, sym, ap, ◌∙◌}
use mathlib.Core.Bool.{Bool}
use Prim.Native.Nat.{◌+◌, ◌*◌, ◌-◌, ◌≤◌}
use native.Mathlib.Nat.{mul-le-mul_right}
use native.Mathlib.Omega.{arith}
use borrow.Author.Rules.{rules}
use Rattle.grid_cell.specs.Private.{Within}
use Rattle.grid_cell.specs.declared.Weights.{Weights}
use Rattle.grid_cell.proofs.Held.{weights-in-is}
use Rattle.grid_counts.specs.Inner.{lacking}
use Rattle.grid_row_refusals.specs.Private.{lacking_at}
use Rattle.grid_row_refusals.proofs.Lacking.{first-lacks, second-lacks, one_has, two-have}
use Rattle.grid_row_refusals.proofs.run_refusal.Goals as goal

pub returns-then-cell_lacks : goal.returns-then-cell_lacks
returns-then-cell_lacks c = let first : (b : Bool) → c.cell_lacks.result ≡ b → lacking_at c.args.mean c.args.n c.args.h c.args.w c.args.y c.args.x ≡ b = λ _ e. sym (c.cell_lacks.ensures ∙ ap (lacking c.args.mean c.args.n) (c.weights_in.ensures ∙ weights-in-is c.requires.0)) ∙ e in
    let a = c.args in
    rw (first-lacks a.mean a.n a.h a.w a.y a.x a.step a.places c.requires.1 (first _ c.if-cell_lacks.true))

pub returns-then-places-lt2 : goal.returns-then-places-lt2
returns-then-places-lt2 c = let first : (b : Bool) → c.cell_lacks.result ≡ b → lacking_at c.args.mean c.args.n c.args.h c.args.w c.args.y c.args.x ≡ b = λ _ e. sym (c.cell_lacks.ensures ∙ ap (lacking c.args.mean c.args.n) (c.weights_in.ensures ∙ weights-in-is c.requires.0)) ∙ e in
    let a = c.args in
    rw (one_has a.mean a.n a.h a.w a.y a.x a.step a.places c.if-places-lt2.true (first _ c.if-cell_lacks.false))

pub returns-then-cell_lacks-2 : goal.returns-then-cell_lacks-2
returns-then-cell_lacks-2 c = let second : c.args.x + c.args.step ≤ c.args.w = let m : 1 * c.args.step ≤ (c.args.places - 1) * c.args.step = mul-le-mul_right c.args.step (omega (arith, c.if-places-lt2.false)) in
    omega (arith, c.requires.2) in
    let inside : Within c.args.h c.args.w c.args.y (c.args.x + c.args.step) = let p = c.requires.0 in record { north = p.north; east = second; high = p.high; wide = p.wide } in
    let next : (t : Bool) → c.cell_lacks-2.result ≡ t → lacking_at c.args.mean c.args.n c.args.h c.args.w c.args.y (c.args.x + c.args.step) ≡ t = λ _ e. sym (c.cell_lacks-2.ensures ∙ ap (lacking c.args.mean c.args.n) (c.weights_in-2.ensures ∙ weights-in-is inside)) ∙ e in
    let a = c.args in
    rw (second-lacks a.mean a.n a.h a.w a.y a.x a.step a.places c.if-places-lt2.false (next _ c.if-cell_lacks-2.true))

pub returns : goal.returns
returns c = let second : c.args.x + c.args.step ≤ c.args.w = let m : 1 * c.args.step ≤ (c.args.places - 1) * c.args.step = mul-le-mul_right c.args.step (omega (arith, c.if-places-lt2.false)) in
    omega (arith, c.requires.2) in
    let inside : Within c.args.h c.args.w c.args.y (c.args.x + c.args.step) = let p = c.requires.0 in record { north = p.north; east = second; high = p.high; wide = p.wide } in
    let next : (t : Bool) → c.cell_lacks-2.result ≡ t → lacking_at c.args.mean c.args.n c.args.h c.args.w c.args.y (c.args.x + c.args.step) ≡ t = λ _ e. sym (c.cell_lacks-2.ensures ∙ ap (lacking c.args.mean c.args.n) (c.weights_in-2.ensures ∙ weights-in-is inside)) ∙ e in
    let first : (b : Bool) → c.cell_lacks.result ≡ b → lacking_at c.args.mean c.args.n c.args.h c.args.w c.args.y c.args.x ≡ b = λ _ e. sym (c.cell_lacks.ensures ∙ ap (lacking c.args.mean c.args.n) (c.weights_in.ensures ∙ weights-in-is c.requires.0)) ∙ e in
    let a = c.args in
    rw (two-have a.mean a.n a.h a.w a.y a.x a.step a.places c.requires.2 (first _ c.if-cell_lacks.false) (next _ c.if-cell_lacks-2.false))

pub overflow_add-x : goal.overflow_add-x
overflow_add-x c =
    let second : c.args.x + c.args.step ≤ c.args.w = let m : 1 * c.args.step ≤ (c.args.places - 1) * c.args.step = mul-le-mul_right c.args.step (omega (arith, c.if-places-lt2.false)) in
    omega (arith, c.requires.2) in
    omega (arith, second, c.requires.0.wide.1)
