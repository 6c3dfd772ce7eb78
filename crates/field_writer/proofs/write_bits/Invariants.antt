-- `field_writer::write_bits` meets its contract.
-- Assumes nothing.
use Prim.Native.Nat.{◌≤◌, ◌-◌, ◌/◌, ◌^◌}
use mathlib.Core.Path.{◌≡◌}
use lib.ListN.{length}
use Rattle.field.specs.Field.{set_field}
use Rattle.field_writer.proofs.write_bits.Given as goal

abbrev pub invariant-loop-k : goal.invariant-loop-k
invariant-loop-k l = (l.k ≤ l.w) × ((length l.s ≡ length l.initial.s) × (l.s ≡ set_field l.initial.s l.p l.k (l.v / 2 ^ (l.w - l.k))))

abbrev pub decreases-loop-k : goal.decreases-loop-k
decreases-loop-k l = l.w - l.k
