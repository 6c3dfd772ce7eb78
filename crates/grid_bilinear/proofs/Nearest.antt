-- `nearest` is the whole number within half a unit of the quotient, of two at a half the one of greater magnitude, and no other number is.
-- Assumes nothing.
use mathlib.Core.Path.{◌≡◌, refl, sym, ap, ◌∙◌, subst}
use Prim.Native.Nat.{ℕ, zero, suc, ◌+◌, ◌*◌, ◌/◌, ◌≤◌, ◌<◌}
use native.Mathlib.Omega.{arith}
use native.Mathlib.Nat.{div-mul-le_self, lt-div-mul-add, div-eq_of_lt, div-eq_of_lt-le}
use native.Mathlib.Decide.{dec_lt}
use lib.IntN.{ℤ, pos, negsuc, neg_ℤ, nat_abs, ◌-ℤ◌, ◌*ℤ◌, neg_ℤ-neg_ℤ}
use Rattle.arith.proofs.Int.{Ex, ring, at, nat, minus, ◌⊟◌, ◌⊠◌, abs_neg, abs-within, within-abs, abs-exact, exact-abs}
use Rattle.grid_bilinear.specs.Bilinear.{nearest_whole}

-- twice the distance of r from s / d, times d
abbrev pub off : ℤ → ℕ → ℤ → ℕ
off s d r = nat_abs (pos (2 * d) *ℤ r -ℤ pos 2 *ℤ s)

-- at a half, r lies beyond s / d as seen from zero
abbrev pub Beyond : ℤ → ℕ → ℤ → Type 0
Beyond s d r = off s d r ≡ d → nat_abs s ≤ d * nat_abs r

-- ---- the negated quotient

off-neg : (s : ℤ) (d : ℕ) (r : ℤ) → off (neg_ℤ s) d (neg_ℤ r) ≡ off s d r
off-neg s d r =
    ap nat_abs (ring (nat (2 * d) ⊠ minus (at r) ⊟ nat 2 ⊠ minus (at s)) (minus (nat (2 * d) ⊠ at r ⊟ nat 2 ⊠ at s)) (omega arith))
    ∙ abs_neg (pos (2 * d) *ℤ r -ℤ pos 2 *ℤ s)

close-neg : (s : ℤ) (d : ℕ) (r : ℤ) → off s d r ≤ d → off (neg_ℤ s) d (neg_ℤ r) ≤ d
close-neg s d r h = subst (λ (n : ℕ). n ≤ d) (sym (off-neg s d r)) h

beyond-neg : (s : ℤ) (d : ℕ) (r : ℤ) → Beyond s d r → Beyond (neg_ℤ s) d (neg_ℤ r)
beyond-neg s d r h e = omega (arith, h (sym (off-neg s d r) ∙ e), abs_neg s, ap (λ (n : ℕ). d * n) (abs_neg r))

-- ---- within half a unit

abbrev apart : ℕ → ℕ → ℕ → Ex
apart n d k = nat (2 * d) ⊠ nat k ⊟ nat 2 ⊠ nat n

module _ (n d : ℕ) (h : 0 < d) where
  abbrev quotient : ℕ
  quotient = (2 * n + d) / (2 * d)

  below : quotient * (2 * d) ≤ 2 * n + d
  below = div-mul-le_self (2 * n + d) (2 * d)

  above : 2 * n + d < quotient * (2 * d) + 2 * d
  above = lt-div-mul-add (omega arith)

  natural-close : off (pos n) d (pos quotient) ≤ d
  natural-close = abs-within (apart n d quotient) (omega (arith, below)) (omega (arith, above))

  natural-half : Beyond (pos n) d (pos quotient)
  natural-half e =
      let f : (apart n d quotient).p ≡ (apart n d quotient).n + d = abs-exact (apart n d quotient) e (omega (arith, above)) in
      half_le (omega arith)
    where
      half_le : {a b : ℕ} → 2 * a ≤ 2 * b → a ≤ b
      half_le h = omega arith

pub nearest-close : (s : ℤ) (d : ℕ) → 0 < d → off s d (nearest_whole s d) ≤ d
unfolding nearest_whole
nearest-close (pos n) d h = natural-close n d h
nearest-close (negsuc n) d h = close-neg (pos (suc n)) d (nearest_whole (pos (suc n)) d) (natural-close (suc n) d h)

pub nearest-half : (s : ℤ) (d : ℕ) → 0 < d → off s d (nearest_whole s d) ≡ d → nat_abs s ≤ d * nat_abs (nearest_whole s d)
unfolding nearest_whole
nearest-half (pos n) d h = natural-half n d h
nearest-half (negsuc n) d h = beyond-neg (pos (suc n)) d (nearest_whole (pos (suc n)) d) (natural-half (suc n) d h)

-- ---- the only such number

natural-only : (n d : ℕ) → 0 < d → (r : ℤ) → off (pos n) d r ≤ d → Beyond (pos n) d r → r ≡ nearest_whole (pos n) d
unfolding nearest_whole
natural-only n d h (pos k) c b =
    ap pos (sym (div-eq_of_lt-le (2 * d) (omega (arith, within-abs (apart n d k) c)) (rest (dec_lt (2 * n) (2 * d * k + d)))))
  where
    rest : Dec (2 * n < 2 * d * k + d) → 2 * n + d < (k + 1) * (2 * d)
    rest (yes l) = omega arith
    rest (no l) =
        let low : 2 * n ≡ 2 * d * k + d = omega (arith, within-abs (apart n d k) c) in
        absurd (omega (arith, b (exact-abs (apart n d k) (omega arith))))
natural-only n d h (negsuc k) c b = absurd (omega (arith, within-abs (nat (2 * d) ⊠ at (negsuc k) ⊟ nat 2 ⊠ nat n) c))

pub nearest-only : (s : ℤ) (d : ℕ) → 0 < d → (r : ℤ) → off s d r ≤ d → (off s d r ≡ d → nat_abs s ≤ d * nat_abs r) → r ≡ nearest_whole s d
unfolding nearest_whole
nearest-only (pos n) d h r c b = natural-only n d h r c b
nearest-only (negsuc n) d h r c b =
    sym (neg_ℤ-neg_ℤ r) ∙ ap neg_ℤ (natural-only (suc n) d h (neg_ℤ r) (close-neg (negsuc n) d r c) (beyond-neg (negsuc n) d r b))

-- ---- of the negated quotient

pub nearest-neg : (s : ℤ) (d : ℕ) → nearest_whole (neg_ℤ s) d ≡ neg_ℤ (nearest_whole s d)
unfolding nearest_whole
nearest-neg (pos zero) d = ap pos (none d) ∙ sym (ap (λ (n : ℕ). neg_ℤ (pos n)) (none d))
  where
    none : (d : ℕ) → (2 * 0 + d) / (2 * d) ≡ 0
    none zero = refl
    none (suc d) = div-eq_of_lt (omega arith)
nearest-neg (pos (suc n)) d = refl
nearest-neg (negsuc n) d = sym (neg_ℤ-neg_ℤ (pos ((2 * suc n + d) / (2 * d))))
