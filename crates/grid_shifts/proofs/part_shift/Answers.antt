-- `grid_shifts::part_shift` meets its contract.
-- Assumes nothing.
use mathlib.Core.Path.{ap, ◌∙◌}
use borrow.Author.Tests.{eq-eqb, ne_eqb}
use lib.IntN.{ℤ, pos}
use Rattle.arith.proofs.Machine.{is-back}
use Rattle.grid_shifts.specs.Private.{cell_shift, part_shift}
use Rattle.grid_shifts.proofs.Parts.{refuses}
use Rattle.grid_shifts.proofs.part_shift.Goals as goal

pub returns-then-refusal-ne0 : goal.returns-then-refusal-ne0
unfolding part_shift
returns-then-refusal-ne0 c = let a = c.args in
    refuses a.number a.component a.refusal (pos 0) c.refused.result c.refused.ensures c.if-refusal-ne0.true
    ∙ rw (ne_eqb a.refusal 0 c.if-refusal-ne0.true)

pub returns : goal.returns
unfolding part_shift
returns c = let a = c.args in
    c.cell_shift.ensures
    ∙ ap (λ (z : ℤ). cell_shift z a.component a.mean a.n a.k) (is-back c.ranges.number)
    ∙ rw (eq-eqb a.refusal 0 c.if-refusal-ne0.false)
