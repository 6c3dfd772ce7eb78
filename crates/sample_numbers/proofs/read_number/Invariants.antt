-- `sample_numbers::read_number` meets its contract: the bytes passed are the number so far.
-- Assumes nothing.
use Prim.Native.Nat.{◌*◌, ◌^◌, ◌<◌}
use mathlib.Core.Path.{◌≡◌}
use Rattle.sample_numbers.specs.Number.{number}
use Rattle.sample_numbers.proofs.read_number.Given as goal

abbrev pub invariant-loop-b : goal.invariant-loop-b
invariant-loop-b l = (l.r < 2 ^ (8 * l.b-index)) × (l.r ≡ number l.b-index l.bytes)
