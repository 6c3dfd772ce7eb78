-- A division by a written number, with a bound of its own.
-- Assumes nothing.
use mathlib.Core.Path.{◌≡◌, refl}
use Prim.Native.Nat.{ℕ, suc, ◌*◌, ◌/◌, ◌≤◌, ◌^◌}
use native.Mathlib.Nat.{le_trans, div-le_of_le-mul}
use lib.Dec.{T, leb, ltb, leb→le}
use lib.IntN.{ℤ, pos, negsuc, nat_abs}
use lib.Signed.{quot_z}
use mir.Syntax.{w64}
use mir.Val.{to_z, of_z}
use Rattle.arith.proofs.Int.{abs_neg}
use Rattle.arith.proofs.Machine.{Num, lit, result}

quot-abs : (x : ℤ) (n : ℕ) → nat_abs (quot_z x (pos n)) ≡ nat_abs x / n
quot-abs (pos a) n = refl
quot-abs (negsuc a) n = abs_neg (pos (suc a / n))

pub quot-most : (x : ℤ) (n q : ℕ) {b : ℕ} → nat_abs x ≤ b → T (leb b (n * q)) → nat_abs (quot_z x (pos n)) ≤ q
quot-most x n q {b} h t = rw (quot-abs x n) (div-le_of_le-mul n (le_trans h (leb→le b (n * q) t)))

abbrev pub quot : (v : Num) (n q : ℕ) → T (ltb n (2 ^ 63)) → T (leb v.b (n * q)) → T (ltb q (2 ^ 63)) → Num
quot v n q t u w =
    result (quot_z (to_z w64 v.bits) (to_z w64 (of_z w64 (pos n)))) q (λ i. quot_z (v.held i) ((lit n t).held i))
    (quot-most v.z n q v.le u) w
