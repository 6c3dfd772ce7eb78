-- `report_points::report_points` meets its contract: when no point is left, the report so far is that of the list.
-- Assumes nothing.
use mathlib.Core.Path.{sym, ◌∙◌}
use native.Mathlib.Omega.{arith}
use Rattle.report_points.specs.Private.{report_from}
use Rattle.report_points.proofs.Walk.{all_done, reports}
use Rattle.report_points.proofs.report_points.Goals as goal

pub returns : goal.returns
returns c = let a = c.args in
    let l = c.loop-i in
    sym (all_done a.message.now c.keep-kept.result a.component a.points.now l.i l.r (omega arith))
    ∙ l.invariant.1
    ∙ (λ i. report_from a.message.now (c.keep-kept.ensures i) a.component 0 a.points.now (c.start-r.ensures i))
    ∙ reports a.message.now a.component a.points.now
