-- `table::copy` meets its contract: the bytes passed are those of the other.
-- Assumes nothing.
use mathlib.Core.Path.{◌≡◌}
use mathlib.Core.List.{◌++◌}
use lib.ListN.{length, get_or, drop}
use Rattle.arith.specs.Lists.{up_to}
use Rattle.table.proofs.copy.Given as goal

abbrev pub invariant-loop-i : goal.invariant-loop-i
invariant-loop-i l = (length l.out ≡ length l.m) × (l.out ≡ up_to (λ k. get_or l.m k 0) l.i ++ drop l.i l.initial.out)
