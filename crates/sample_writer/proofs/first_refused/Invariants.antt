-- `sample_writer::first_refused` meets its contract: none of the points passed is refused.
-- Assumes nothing.
use Prim.Native.Nat.{◌≤◌}
use mathlib.Core.Path.{◌≡◌}
use lib.ListN.{length}
use Rattle.sample_writer.specs.Refusals.{asked_of, first_refused}
use Rattle.sample_writer.proofs.Asked.{from}
use Rattle.sample_writer.proofs.first_refused.Given as goal

abbrev pub invariant-loop-i : goal.invariant-loop-i
invariant-loop-i l =
    (l.i ≤ length l.components)
    × ((length l.components ≡ length l.north)
    × ((length l.components ≡ length l.east)
    × (first_refused l.message (asked_of l.components l.north l.east) ≡ first_refused l.message (from l.components l.north l.east l.i))))
