-- `field::few_bytes` meets its contract.
-- Assumes nothing.
use Prim.Native.Nat.{ℕ, ◌*◌, ◌^◌, ◌≤◌, ◌<◌}
use mathlib.Core.Path.{refl}
use native.Mathlib.Nat.{zero-add}
use native.Mathlib.Omega.{arith}
use lib.Pow.{pow_mono}
use Rattle.field.specs.Field.{field}
use Rattle.field.proofs.Bit.{field_lt, byte-field, bytes-join}
use Rattle.field.proofs.few_bytes.Goals as goal

-- fewer than eight bytes leave room for one more
room : (x k : ℕ) → x < 2 ^ (8 * k) → k < 8 → x < 2 ^ 56
room x k h l = let m : 2 ^ (8 * k) ≤ 2 ^ 56 = pow_mono {i = 8 * k} {j = 56} (omega arith) in omega arith

pub loop-b-init : goal.loop-b-init
loop-b-init c = unfold field in refl

pub overflow_mul-r : goal.overflow_mul-r
overflow_mul-r c = let s = c.args.s.now in
    let l = c.loop-b in
    omega (arith, l.invariant, room (field s 0 (8 * l.b-index)) l.b-index (field_lt s 0 (8 * l.b-index)) (omega arith))

pub overflow_add-r : goal.overflow_add-r
overflow_add-r c = let s = c.args.s.now in
    let l = c.loop-b in
    omega (arith, l.invariant, c.type_inv.s l.b-index, room (field s 0 (8 * l.b-index)) l.b-index (field_lt s 0 (8 * l.b-index)) (omega arith))

pub loop-b-preserved : goal.loop-b-preserved
loop-b-preserved c = let s = c.args.s.now in
    let l = c.loop-b in
    rw (l.invariant, ← byte-field s l.b-index (omega (arith, c.type_inv.s l.b-index))) (rw zero-add at (bytes-join s 0 l.b-index 1))
