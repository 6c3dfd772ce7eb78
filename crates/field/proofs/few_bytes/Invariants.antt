-- `field::few_bytes` meets its contract.
-- Assumes nothing.
use Rattle.std.proofs.Common.{◌≡◌, ◌*◌}
use Rattle.field.specs.Field.{field}
use Rattle.field.proofs.few_bytes.Given as goal

abbrev pub invariant-loop-b : goal.invariant-loop-b
invariant-loop-b l = l.r ≡ field l.s 0 (8 * l.b-index)
