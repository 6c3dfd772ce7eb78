-- `heights_mean::greatest_of` meets its contract: a loop that keeps the greatest height so far.
-- Assumes nothing.
use Prim.Native.Nat.{◌≤◌}
use mathlib.Core.Path.{◌≡◌}
use Rattle.arith.specs.Lists.{at}
use Rattle.heights_mean.specs.Private.{greatest}
use Rattle.heights_mean.proofs.greatest_of.Given as goal

abbrev pub invariant-loop-i : goal.invariant-loop-i
invariant-loop-i l = (l.i ≤ 16) × (l.r ≡ greatest (at l.wanted) l.i)
