-- `report_points::steps` meets its contract. The loop's invariant: the report so far, with the points that are left, comes to the report of all of them.
-- Assumes nothing.
use mathlib.Core.Path.{◌≡◌}
use Prim.Native.Nat.{◌≤◌, ◌-◌}
use lib.ListN.{length, drop}
use Rattle.report_points.specs.Reports.{points_of}
use Rattle.report_points.specs.Private.{report_from}
use Rattle.report_points.proofs.steps.Given as goal

abbrev pub invariant-loop-i : goal.invariant-loop-i
invariant-loop-i l =
    (l.i ≤ length l.north) × (report_from l.message l.kept l.component l.i (drop l.i (points_of l.north l.east)) l.x ≡ report_from l.message l.kept l.component 0 (points_of l.north l.east) l.initial.x)

abbrev pub decreases-loop-i : goal.decreases-loop-i
decreases-loop-i l = length l.north - l.i
