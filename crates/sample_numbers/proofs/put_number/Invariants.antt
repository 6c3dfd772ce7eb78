-- `sample_numbers::put_number` meets its contract: the bytes passed, from the last, are those of the number.
-- Assumes nothing.
use mathlib.Core.Path.{◌≡◌}
use mathlib.Core.List.{◌++◌}
use lib.ListN.{length, drop}
use Rattle.sample_numbers.specs.Number.{bytes_of}
use Rattle.sample_numbers.proofs.put_number.Given as goal

abbrev pub invariant-loop-k : goal.invariant-loop-k
invariant-loop-k l = bytes_of (length l.initial.out) l.v ≡ bytes_of l.k l.left ++ drop l.k l.out
