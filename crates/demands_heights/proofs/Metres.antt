-- A height as a float of metres: its counts, ten for each millimetre, over 10,000 give the float that its millimetres over 1,000 give.
-- Assumes nothing.
use mathlib.Core.Path.{◌≡◌, refl, sym, ap, subst, ◌∙◌}
use mathlib.Core.Bool.{Bool, true, false}
use Prim.Native.Nat.{ℕ, suc, ◌+◌, ◌*◌, ◌≤◌, ◌<◌}
use native.Mathlib.Nat.{mul-one, mul_assoc, mul_comm, mul_left_comm, mul-pos}
use native.Mathlib.Omega.{arith}
use borrow.Author.Tests.{ne_eqb}
use lib.IntN.{ℤ, pos, negsuc, neg_ℤ, nat_abs, ◌*ℤ◌}
use lib.Pow.{pow_pos}
use lib.Ieee.{Float, nan, inf, fin, binary64, up, down, unlike, round, div, of_int}
use lib.Ieee.Back.{round_whole}
use lib.Ieee.Exact.{HasValue}
use lib.Ieee.Positive.{first_pos}
use lib.Ieee.Scale.{round_same}
use Rattle.grid_shifts.specs.Shift.{units_of}

-- ---- a quotient of whole numbers

down_pos : (e : ℤ) → 0 < down e
down_pos (pos k) = omega arith
down_pos (negsuc k) = pow_pos (suc k)

sign : (s : Bool) → unlike s false ≡ s
sign true = refl
sign false = refl

cross : (m n e d a b : ℕ) → m ≡ a * e → n ≡ b * d → m * d * b ≡ a * (n * e)
cross m n e d a b p q = rw (p, q) (simp (mul_assoc, mul_comm, mul_left_comm))

whole-div : (x y : Float) (s : Bool) (a b : ℕ) → 0 < b → HasValue x s a 1 → HasValue y false b 1 → div binary64 x y ≡ round binary64 s a b
unfolding div
whole-div nan y s a b p h k = absurd h
whole-div (inf t) y s a b p h k = absurd h
whole-div (fin r m e) nan s a b p h k = absurd k
whole-div (fin r m e) (inf t) s a b p h k = absurd k
whole-div (fin r m e) (fin t n d) s a b p h k =
    let x : m * up e ≡ a * down e = sym (mul-one (m * up e)) ∙ h.1 in
    let y : n * up d ≡ b * down d = sym (mul-one (n * up d)) ∙ k.1 in
    let u : 0 < n * up d = subst (λ (i : ℕ). 0 < i) (sym y) (mul-pos p (down_pos d)) in
    rw (ne_eqb n 0 (λ q. absurd (omega (arith, q, first_pos n (up d) u))))
    (round_same binary64 (unlike r t) (m * up e * down d) (n * up d * down e) a b (mul-pos u (down_pos e)) p (cross (m * up e) (n * up d) (down e) (down d) a b x y)
    ∙ (λ i. round binary64 (unlike (h.0 i) (k.0 i)) a b)
    ∙ ap (λ (r : Bool). round binary64 r a b) (sign s))

-- ---- millimetres and counts

same : (s : Bool) (a k : ℕ) → a ≡ 10 * k → k ≤ 164085
    → div binary64 (round binary64 s a 1) (round binary64 false 10000 1) ≡ div binary64 (round binary64 s k 1) (round binary64 false 1000 1)
same s a k e h =
    whole-div (round binary64 s a 1) (round binary64 false 10000 1) s a 10000 (omega arith) (round_whole binary64 s a (omega arith)) (round_whole binary64 false 10000 (omega arith))
    ∙ round_same binary64 s a 10000 k 1000 (omega arith) (omega arith) (omega arith)
    ∙ sym (whole-div (round binary64 s k 1) (round binary64 false 1000 1) s k 1000 (omega arith) (round_whole binary64 s k (omega arith)) (round_whole binary64 false 1000 (omega arith)))

pub metres-is : (h : ℤ) → nat_abs h ≤ 164085 → units_of 10000 (pos 10 *ℤ h) ≡ units_of 1000 h
unfolding of_int
metres-is (pos k) l = same false (10 * k) k refl l
metres-is (negsuc k) l =
    let e : 10 * suc k ≡ suc (10 * k + 9) = omega arith in
    ap (λ (n : ℕ). units_of 10000 (neg_ℤ (pos n))) e ∙ same true (suc (10 * k + 9)) (suc k) (sym e) l
