-- A broken line over three spacings d through four values, times d: its pieces meet, and each step moves it by at most the greatest difference of neighbouring values.
-- Assumes nothing.
use mathlib.Core.Path.{◌≡◌, ap, sym, ◌∙◌, subst, subst₂}
use mathlib.Core.Logic.{◌⊎◌, inl, inr}
use Prim.Native.Nat.{ℕ, zero, suc, ◌+◌, ◌*◌, ◌-◌, ◌≤◌, ◌<◌}
use native.Mathlib.Nat.{mul-le-mul_left, suc-mul, add-zero, add-suc, sub-zero, sub_self, sub-add_cancel, eq-or-lt_of_le}
use native.Mathlib.Decide.{dec_lt}
use native.Mathlib.Numerals.{add-one}
use native.Mathlib.Omega.{arith}
use lib.IntN.{ℤ, pos, nat_abs, ◌+ℤ◌, ◌-ℤ◌, ◌*ℤ◌}
use Rattle.arith.proofs.Int.{ring, at, nat, ◌⊞◌, ◌⊟◌, ◌⊠◌, abs-add, abs-mul}
use Rattle.grid_bilinear.specs.Bilinear.{gap, cell}
use Rattle.grid_bilinear.proofs.Gap.{gap-triangle, gap-sym, gap-self, gap_more}
use Rattle.grid_bilinear.proofs.Place.{cell-le, cell-from, cell-to, cell-upto, cell-is, cell-far}

-- ---- k parts of a and r parts of b

unfoldable pub mix : ℕ → ℕ → ℤ → ℤ → ℤ
mix k r a b = pos k *ℤ a +ℤ pos r *ℤ b

pub mix-size : (k r : ℕ) (a b : ℤ) (e : ℕ) → nat_abs a ≤ e → nat_abs b ≤ e → nat_abs (mix k r a b) ≤ (k + r) * e
unfolding mix
mix-size k r a b e h₁ h₂ =
    omega (arith, abs-add (pos k *ℤ a) (pos r *ℤ b), abs-mul (pos k) a, abs-mul (pos r) b, mul-le-mul_left k h₁, mul-le-mul_left r h₂)

mix-moves : (k r : ℕ) (a b a' b' : ℤ) (e : ℕ) → gap a a' ≤ e → gap b b' ≤ e → gap (mix k r a b) (mix k r a' b') ≤ (k + r) * e
unfolding gap mix
mix-moves k r a b a' b' e h₁ h₂ =
    subst (λ z. nat_abs z ≤ (k + r) * e)
    (ring (nat k ⊠ (at a ⊟ at a') ⊞ nat r ⊠ (at b ⊟ at b')) (nat k ⊠ at a ⊞ nat r ⊠ at b ⊟ (nat k ⊠ at a' ⊞ nat r ⊠ at b')) (omega arith))
    (mix-size k r (a -ℤ a') (b -ℤ b') e h₁ h₂)

-- one part more of b and one less of a
mix-step : (k r : ℕ) (a b : ℤ) → gap (mix (suc k) r a b) (mix k (suc r) a b) ≡ gap a b
unfolding gap mix
mix-step k r a b =
    ap nat_abs (ring (nat (suc k) ⊠ at a ⊞ nat r ⊠ at b ⊟ (nat k ⊠ at a ⊞ nat (suc r) ⊠ at b)) (at a ⊟ at b) (omega arith))

-- the end of one cell is the start of the next
abbrev pub Meets : {X : Type 0} → (ℕ → ℕ → X → X → X) → ℕ → Type 0
Meets {X} m d = (a b c : X) → m 0 d a b ≡ m d 0 b c

pub mix-meets : (d : ℕ) → Meets mix d
unfolding mix
mix-meets d a b c = ring (nat 0 ⊠ at a ⊞ nat d ⊠ at b) (nat d ⊠ at b ⊞ nat 0 ⊠ at c) (omega arith)

-- ---- pieces, of any values and any way to mix two that meets

unfoldable pub piece_of : {X : Type 0} → (ℕ → ℕ → X → X → X) → ℕ → (ℕ → X) → ℕ → ℕ → X
piece_of m d v k t = m (d - (t - k * d)) (t - k * d) (v k) (v (k + 1))

module _ {X : Type 0} (m : ℕ → ℕ → X → X → X) (d : ℕ) (meets : Meets m d) (v : ℕ → X) where
  next-piece : (k t : ℕ) → t ≡ suc k * d → piece_of m d v (suc k) t ≡ piece_of m d v k t
  unfolding piece_of
  next-piece k t e =
      ap (λ r. m (d - r) r (v (suc k)) (v (suc k + 1))) none
      ∙ ap (λ n. m n 0 (v (suc k)) (v (suc k + 1))) (sub-zero d)
      ∙ ap (λ c. m d 0 (v c) (v (suc k + 1))) (sym (add-one k))
      ∙ sym (meets (v k) (v (k + 1)) (v (suc k + 1)))
      ∙ sym (ap (λ n. m n d (v k) (v (k + 1))) (sub_self d))
      ∙ sym (ap (λ r. m (d - r) r (v k) (v (k + 1))) all)
    where
      none : t - suc k * d ≡ 0
      none = omega arith

      all : t - k * d ≡ d
      all = omega (arith, suc-mul k d)

  -- at every t of a cell, its own edges included, the piece of the cell of t is that cell's piece
  pub shared : (k t : ℕ) → 0 < d → k ≤ 2 → k * d ≤ t → t ≤ suc k * d → piece_of m d v (cell d t) t ≡ piece_of m d v k t
  shared k t h k2 a b = go (eq-or-lt_of_le b) (eq-or-lt_of_le k2)
    where
      here : (c : ℕ) → cell d t ≡ c → piece_of m d v (cell d t) t ≡ piece_of m d v c t
      here c e = ap (λ c. piece_of m d v c t) e

      go : (t ≡ suc k * d) ⊎ (t < suc k * d) → (k ≡ 2) ⊎ (k < 2) → piece_of m d v (cell d t) t ≡ piece_of m d v k t
      go (inr l) c = here k (cell-is d t k k2 a l)
      go (inl e) (inl c) = here k (cell-far d t h (subst (λ n. n * d ≤ t) c a) ∙ sym c)
      go (inl e) (inr c) = here (suc k) (cell-is d t (suc k) c (omega arith) (omega (arith, suc-mul (suc k) d))) ∙ next-piece k t e

-- ---- the line

unfoldable pub line : ℕ → (ℕ → ℤ) → ℕ → ℤ
line d v t = piece_of mix d v (cell d t) t

-- neighbouring values differ by at most e
abbrev pub Slope : (ℕ → ℤ) → ℕ → Type 0
Slope v e = (k : ℕ) → k ≤ 2 → gap (v k) (v (k + 1)) ≤ e

module _ (d : ℕ) (v : ℕ → ℤ) (e : ℕ) (slope : Slope v e) where
  line_step : (t : ℕ) → t < 3 * d → gap (line d v t) (line d v (suc t)) ≤ e
  unfolding line piece_of
  line_step t h =
      subst (λ z. gap (line d v t) z ≤ e)
      (sym (shared mix d (mix-meets d) v k (suc t) (omega arith) (cell-le d t) (omega (arith, cell-from d t)) (cell-to d t h)))
      (subst₂ (λ x y. gap (mix x r (v k) (v (k + 1))) (mix (d - y) y (v k) (v (k + 1))) ≤ e) left more
      (subst (λ n. n ≤ e) (sym (mix-step (d - suc r) r (v k) (v (k + 1)))) (slope k (cell-le d t))))
    where
      k : ℕ
      k = cell d t

      r : ℕ
      r = t - k * d

      left : suc (d - suc r) ≡ d - r
      left = omega (arith, cell-from d t, cell-to d t h, suc-mul (cell d t) d)

      more : suc r ≡ suc t - k * d
      more = omega (arith, cell-from d t)

  line-steps : (t n : ℕ) → t + n ≤ 3 * d → gap (line d v t) (line d v (t + n)) ≤ n * e
  line-steps t zero h = subst (λ m. gap (line d v t) (line d v m) ≤ 0 * e) (sym (add-zero t)) (omega (arith, gap-self (line d v t)))
  line-steps t (suc n) h =
      subst (λ m. gap (line d v t) (line d v m) ≤ suc n * e) (sym (add-suc t n))
      (omega (
        arith,
        gap-triangle (line d v t) (line d v (t + n)) (line d v (suc (t + n))),
        line-steps t n (omega arith),
        line_step (t + n) (omega arith),
        suc-mul n e,
      ))

  line-ahead : (s t : ℕ) → s ≤ t → t ≤ 3 * d → gap (line d v s) (line d v t) ≤ gap (pos s) (pos t) * e
  line-ahead s t h ht =
      subst₂ (λ m n. gap (line d v s) (line d v m) ≤ n * e) whole (sym (gap_more s (t - s)) ∙ ap (λ m. gap (pos s) (pos m)) whole)
      (line-steps s (t - s) (omega arith))
    where
      whole : s + (t - s) ≡ t
      whole = omega arith

  pub line-slope : (s t : ℕ) → s ≤ 3 * d → t ≤ 3 * d → gap (line d v s) (line d v t) ≤ gap (pos s) (pos t) * e
  line-slope s t hs ht = go (dec_lt s t)
    where
      go : Dec (s < t) → gap (line d v s) (line d v t) ≤ gap (pos s) (pos t) * e
      go (yes l) = line-ahead s t (omega arith) ht
      go (no l) =
          subst₂ (λ m n. m ≤ n * e) (gap-sym (line d v t) (line d v s)) (gap-sym (pos t) (pos s)) (line-ahead t s (omega arith) hs)

-- the line moves no more than its values
pub line-moves : (d : ℕ) (v w : ℕ → ℤ) (e t : ℕ) → 0 < d → t ≤ 3 * d → ((k : ℕ) → k ≤ 3 → gap (v k) (w k) ≤ e) → gap (line d v t) (line d w t) ≤ d * e
unfolding line piece_of
line-moves d v w e t p b h =
    subst (λ m. gap (line d v t) (line d w t) ≤ m * e) (sub-add_cancel within)
    (mix-moves (d - r) r (v k) (v (k + 1)) (w k) (w (k + 1)) e (h k (omega (arith, cell-le d t))) (h (k + 1) (omega (arith, cell-le d t))))
  where
    k : ℕ
    k = cell d t

    r : ℕ
    r = t - k * d

    within : r ≤ d
    within = omega (arith, cell-from d t, cell-upto d t p b, suc-mul (cell d t) d)
