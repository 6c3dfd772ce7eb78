-- `grid_shifts::cell_shift` meets its contract.
-- Assumes nothing.
use mathlib.Core.Path.{◌≡◌, sym, ap, ◌∙◌, subst}
use Prim.Native.Nat.{◌≤◌}
use native.Mathlib.Nat.{le_trans}
use native.Mathlib.Omega.{arith}
use lib.Dec.{lit≤}
use lib.IntN.{ℤ, nat_abs}
use mir.Syntax.{w64}
use mir.Val.{to_z, of_z}
use Rattle.arith.proofs.Back.{held}
use Rattle.arith.proofs.Machine.{is-back}
use Rattle.grid_counts.specs.Inner.{cell_count}
use Rattle.grid_counts.specs.declared.Counted.{Counted}
use Rattle.grid_counts.proofs.Bounds.{cell-most}
use Rattle.grid_shifts.specs.Shift.{answer_of, outcome}
use Rattle.grid_shifts.specs.Private.{cell_shift}
use Rattle.grid_shifts.proofs.Parts.{refuses}
use Rattle.grid_shifts.proofs.cell_shift.Goals as goal

pub returns-then-c-ne0 : goal.returns-then-c-ne0
unfolding cell_shift
returns-then-c-ne0 c = let r : Counted = cell_count c.args.number c.args.component c.args.mean c.args.n c.args.k in
    let is : c.cell_count-c.result ≡ r = c.cell_count-c.ensures ∙ ap (λ (z : ℤ). cell_count z c.args.component c.args.mean c.args.n c.args.k) (is-back c.ranges.number) in
    let a = c.args in
    let o = c.cell_count-c.result in
    refuses a.number a.component o.refusal o.count c.refused.result c.refused.ensures c.if-c-ne0.true
    ∙ (λ i. outcome a.number a.component (is i).refusal (is i).count)

pub answer_of-requires : goal.answer_of-requires
answer_of-requires c = let r : Counted = cell_count c.args.number c.args.component c.args.mean c.args.n c.args.k in
    let is : c.cell_count-c.result ≡ r = c.cell_count-c.ensures ∙ ap (λ (z : ℤ). cell_count z c.args.component c.args.mean c.args.n c.args.k) (is-back c.ranges.number) in
    let count : to_z w64 (of_z w64 c.cell_count-c.result.count) ≡ r.count = held c.cell_count-c.result.count (omega arith) ∙ ap (λ (o : Counted). o.count) is in
    let a = c.args in
    subst (λ (z : ℤ). nat_abs z ≤ 9007199254740992) (sym count)
    (le_trans (cell-most a.number a.component a.mean a.n a.k) (lit≤ tt))

pub returns : goal.returns
unfolding cell_shift outcome
returns c = let r : Counted = cell_count c.args.number c.args.component c.args.mean c.args.n c.args.k in
    let is : c.cell_count-c.result ≡ r = c.cell_count-c.ensures ∙ ap (λ (z : ℤ). cell_count z c.args.component c.args.mean c.args.n c.args.k) (is-back c.ranges.number) in
    let none : r.refusal ≡ 0 = sym (ap (λ (o : Counted). o.refusal) is) ∙ c.if-c-ne0.false in
    let count : to_z w64 (of_z w64 c.cell_count-c.result.count) ≡ r.count = held c.cell_count-c.result.count (omega arith) ∙ ap (λ (o : Counted). o.count) is in
    let a = c.args in
    (λ i. record {
      refusal = 0;
      count = (held c.cell_count-c.result.count (omega arith) ∙ ap (λ (o : Counted). o.count) is) i;
      answer = (c.answer_of.ensures ∙ (λ i. answer_of (is-back c.ranges.number i) a.component 0 (count i))) i;
    })
    ∙ (λ i. outcome a.number a.component (sym none i) r.count)
