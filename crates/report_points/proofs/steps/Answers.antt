-- `report_points::steps` meets its contract. The loop's invariant: the report so far, with the points that are left, comes to the report of all of them.
-- Assumes nothing.
use mathlib.Core.Path.{refl, sym, ap, ◌∙◌}
use native.Mathlib.Omega.{arith}
use lib.IntN.{pos}
use lib.ListN.{get_or}
use Rattle.report_points.specs.declared.Point.{Point}
use Rattle.report_points.specs.Reports.{points_of}
use Rattle.report_points.specs.Private.{step_of}
use Rattle.report_points.proofs.Walk.{all_done, one_more}
use Rattle.report_points.proofs.Lists.{points-length, points-at}
use Rattle.arith.proofs.Back.{held}
use Rattle.report_points.proofs.steps.Goals as goal

pub loop-i-init : goal.loop-i-init
loop-i-init c = (omega arith, refl)

pub offset_bounds-north-i : goal.offset_bounds-north-i
offset_bounds-north-i c = omega (arith, c.well_formed.1.1.1.1.0)

pub bounds-north-i : goal.bounds-north-i
bounds-north-i c = omega arith

pub offset_bounds-east-i : goal.offset_bounds-east-i
offset_bounds-east-i c = omega (arith, c.well_formed.1.1.1.1.0)

pub bounds-east-i : goal.bounds-east-i
bounds-east-i c = omega (arith, c.requires.0)

pub loop-i-smaller : goal.loop-i-smaller
loop-i-smaller c = omega arith

pub loop-i-preserved : goal.loop-i-preserved
loop-i-preserved c = let a = c.args in
    let l = c.loop-i in
    let ps = points_of a.north.now a.east.now in (
      omega arith,
      one_more a.message.now a.kept a.component ps l.i l.x c.prepared_step-x.result (omega (arith, points-length a.north.now a.east.now c.requires.0))
          (c.prepared_step-x.ensures ∙ ap (λ (p : Point). step_of l.x a.message.now a.kept a.component p l.i)
          ((λ j. record { north = held (get_or a.north.now l.i (pos 0)) (omega arith) j; east = held (get_or a.east.now l.i (pos 0)) (omega arith) j })
          ∙ sym (points-at a.north.now a.east.now l.i c.requires.0 (omega arith)))) ∙ l.invariant.1,
    )

pub returns : goal.returns
returns c = let a = c.args in
    let l = c.loop-i in
    let ps = points_of a.north.now a.east.now in
    sym (all_done a.message.now a.kept a.component ps l.i l.x (omega (arith, points-length a.north.now a.east.now c.requires.0))) ∙ l.invariant.1

pub prepared_step-x-requires : goal.prepared_step-x-requires
prepared_step-x-requires c = c.requires.1
