-- `field::load_field` meets its contract.
-- Assumes nothing.
use native.Mathlib.Omega.{arith}
use Prim.Native.Nat.{ℕ, ◌+◌, ◌-◌, ◌*◌, ◌/◌, ◌%◌, ◌^◌}
use mathlib.Core.Path.{◌≡◌}
use Rattle.std.proofs.lemmas.Nat.{one_shl}
use Rattle.field.proofs.Bit.{field_cut}
use Rattle.field.proofs.load_field.Goals as goal

pub returns : goal.returns
returns c = let a = c.args in
    let q : ℕ = (a.p + a.w + 7) / 8 - 8 in
    let n : 1 * 2 ^ a.w % 2 ^ 64 ≡ 2 ^ a.w = one_shl a.w 64 (omega arith) in
    rw (c.eight_bytes.ensures, c.saturating_sub-q.ensures, n)
    (field_cut a.s.now (8 * q) 64 a.p a.w (q * 8 + 64 - (a.p + a.w)) (omega arith) (omega arith))
