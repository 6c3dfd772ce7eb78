-- `report_points::report_points` meets its contract. The loop's invariant: the report so far, with the points that are left, comes to the report of all of them.
-- Assumes nothing.
use Prim.Native.Nat.{◌≤◌, ◌-◌}
use mathlib.Core.Path.{◌≡◌}
use lib.ListN.{length, drop}
use Rattle.report_points.specs.Private.{report_from}
use Rattle.report_points.proofs.report_points.Given as goal

abbrev pub invariant-loop-i : goal.invariant-loop-i
invariant-loop-i l =
    (l.i ≤ length l.points) × (report_from l.message l.kept l.component l.i (drop l.i l.points) l.r ≡ report_from l.message l.kept l.component 0 l.points l.initial.r)

abbrev pub decreases-loop-i : goal.decreases-loop-i
decreases-loop-i l = length l.points - l.i
