-- `report_points::prepared_step` meets its contract: the code's test is the definition's.
-- Assumes nothing.
use native.Mathlib.Omega.{arith}
use mathlib.Core.Path.{◌∙◌}
use borrow.Author.Tests.{ne_eqb}
use Rattle.arith.proofs.Back.{held}
use Rattle.grid_component.specs.Inner.{counted_by}
use Rattle.report_update.specs.Inner.{grown_by}
use Rattle.report_points.specs.Private.{step_of}
use Rattle.report_points.proofs.Walk.{stepped}
use Rattle.report_points.proofs.prepared_step.Goals as goal

pub returns-then-r-ne0 : goal.returns-then-r-ne0
unfolding step_of
returns-then-r-ne0 c = rw (ne_eqb _ 0 c.if-r-ne0.true)

pub returns : goal.returns
returns c = let a = c.args in
    let o = c.count_at-o.result in
    (λ i. record { refusal = 0; tally = (c.with_outcome.ensures ∙ (λ j. grown_by a.r.tally o.refusal (held o.count (omega arith) j) a.before)) i })
    ∙ stepped a.r a.message.now a.kept a.component a.p a.before
    (c.count_at-o.ensures
    ∙ (λ i. counted_by a.message.now a.kept a.component (held a.p.north (omega arith) i) (held a.p.east (omega arith) i)))
    c.if-r-ne0.false
