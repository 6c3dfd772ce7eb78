-- `sample_checks::first_bad` meets its contract: the points passed are right.
-- Assumes nothing.
use Prim.Native.Nat.{◌≤◌}
use mathlib.Core.Path.{◌≡◌}
use lib.ListN.{length}
use Rattle.sample_files.specs.File.{points_of}
use Rattle.sample_checks.proofs.Checks.{bad_from}
use Rattle.sample_checks.proofs.first_bad.Given as goal

abbrev pub invariant-loop-i : goal.invariant-loop-i
invariant-loop-i l = (l.n ≡ length (points_of l.file)) × ((l.i ≤ l.n) × (bad_from l.message l.file 0 ≡ bad_from l.message l.file l.i))
