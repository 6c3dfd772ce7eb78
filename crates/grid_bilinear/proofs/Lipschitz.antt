-- Between any two positions the answer changes by at most one unit and, for each step, the greatest neighbouring difference over the spacing.
-- Assumes nothing.
use mathlib.Core.Path.{◌≡◌, ap, ap₂, sym, ◌∙◌, subst, subst₂}
use mathlib.Core.Bool.{false}
use mathlib.Core.Logic.{◌⊎◌, inl, inr}
use Prim.Native.Nat.{ℕ, zero, suc, ◌+◌, ◌*◌, ◌-◌, ◌≤◌, ◌<◌, max}
use native.Mathlib.Nat.{mul-pos, eq-or-lt_of_le, not-suc-le-zero, le_of_suc-le-suc, le-max_left, le-max_right, le_trans}
use native.Mathlib.Omega.{arith}
use lib.IntN.{ℤ, pos, neg_ℤ, nat_abs, ◌+ℤ◌, ◌-ℤ◌, ◌*ℤ◌, +ℤ_comm}
use Rattle.arith.proofs.Int.{ring, at, nat, ◌⊞◌, ◌⊟◌, ◌⊠◌, abs-add, abs_neg, abs-mul}
use Rattle.grid_bilinear.specs.Bilinear.{gap, nearest_whole, greatest, Surface, from_edge, outside, exact, interpolated, column_difference, row_difference, LipschitzBound}
use Rattle.grid_bilinear.proofs.Gap.{gap-triangle, gap-sym, gap-add}
use Rattle.grid_bilinear.proofs.Place.{steps-most, steps-gap}
use Rattle.grid_bilinear.proofs.Line.{Slope, line, line-slope, line-moves}
use Rattle.grid_bilinear.proofs.Cells.{row-north, rows, exact-line}
use Rattle.grid_bilinear.proofs.Nearest.{nearest-close}

-- ---- the greatest

greatest-le : (n : ℕ) (f : ℕ → ℕ) (i : ℕ) → i < n → f i ≤ greatest n f
unfolding greatest
greatest-le zero f i h = absurd (not-suc-le-zero h)
greatest-le (suc n) f i h = go (greatest-le n f i) (eq-or-lt_of_le (le_of_suc-le-suc h))
  where
    go : (i < n → f i ≤ greatest n f) → (i ≡ n) ⊎ (i < n) → f i ≤ max (greatest n f) (f n)
    go r (inl e) = subst (λ j. f j ≤ max (greatest n f) (f n)) (sym e) (le-max_right (greatest n f) (f n))
    go r (inr l) = le_trans (r l) (le-max_left (greatest n f) (f n))

greatest-two : {m n : ℕ} (f : ℕ → ℕ → ℕ) (i j : ℕ) → i < m → j < n → f i j ≤ greatest m (λ i. greatest n (f i))
greatest-two {m} {n} f i j hi hj = le_trans (greatest-le n (f i) j hj) (greatest-le m (λ i. greatest n (f i)) i hi)

-- ---- neighbours

row_near : (g : Surface) (i j : ℕ) → i < 4 → j < 3 → gap (g.node i j) (g.node i (j + 1)) ≤ row_difference g
unfolding row_difference
row_near g i j hi hj = greatest-two (λ i j. gap (g.node i j) (g.node i (j + 1))) i j hi hj

column-near : (g : Surface) (i j : ℕ) → i < 3 → j < 4 → gap (g.node i j) (g.node (i + 1) j) ≤ column_difference g
unfolding column_difference
column-near g i j hi hj = greatest-two (λ j i. gap (g.node i j) (g.node (i + 1) j)) j i hj hi

-- the same in a column, with the row counted from the south
north-near : (g : Surface) (k j : ℕ) → k ≤ 2 → j ≤ 3 → gap (g.node (3 - k) j) (g.node (3 - (k + 1)) j) ≤ column_difference g
north-near g k j hk hj =
    subst₂ (λ a b. gap (g.node a j) (g.node b j) ≤ column_difference g) lower (row-north k)
    (subst (λ n. n ≤ column_difference g) (gap-sym (g.node (2 - k) j) (g.node (2 - k + 1) j)) (column-near g (2 - k) j (omega arith) (omega arith)))
  where
    lower : 2 - k + 1 ≡ 3 - k
    lower = omega arith

-- ---- the exact mean

module _ (g : Surface) (p_h : 0 < g.H) (p_w : 0 < g.W) where
  north-slope : (x : ℕ) → x ≤ 3 * g.W → Slope (rows g x) (g.W * column_difference g)
  unfolding rows
  north-slope x hx k hk =
      line-moves g.W (g.node (3 - k)) (g.node (3 - (k + 1))) (column_difference g) x p_w hx (λ j hj. north-near g k j hk hj)

  east-moves : (x₁ x₂ : ℕ) → x₁ ≤ 3 * g.W → x₂ ≤ 3 * g.W → (k : ℕ) → k ≤ 3 → gap (rows g x₁ k) (rows g x₂ k) ≤ gap (pos x₁) (pos x₂) * row_difference g
  unfolding rows
  east-moves x₁ x₂ h₁ h₂ k hk =
      line-slope g.W (g.node (3 - k)) (row_difference g) (λ j hj. row_near g (3 - k) j (omega arith) (omega arith)) x₁ x₂ h₁ h₂

  exact-near : (y₁ x₁ y₂ x₂ : ℕ) → y₁ ≤ 3 * g.H → x₁ ≤ 3 * g.W → y₂ ≤ 3 * g.H → x₂ ≤ 3 * g.W →
      gap (exact g y₁ x₁) (exact g y₂ x₂) ≤ gap (pos y₁) (pos y₂) * column_difference g * g.W + gap (pos x₁) (pos x₂) * row_difference g * g.H
  exact-near y₁ x₁ y₂ x₂ hy₁ hx₁ hy₂ hx₂ =
      subst₂ (λ a b. gap a b ≤ gap (pos y₁) (pos y₂) * column_difference g * g.W + gap (pos x₁) (pos x₂) * row_difference g * g.H)
      (sym (exact-line g y₁ x₁)) (sym (exact-line g y₂ x₂))
      (omega (
        arith,
        gap-triangle (line g.H (rows g x₁) y₁) (line g.H (rows g x₁) y₂) (line g.H (rows g x₂) y₂),
        line-slope g.H (rows g x₁) (g.W * column_difference g) (north-slope x₁ hx₁) y₁ y₂ hy₁ hy₂,
        line-moves g.H (rows g x₁) (rows g x₂) (gap (pos x₁) (pos x₂) * row_difference g) y₂ p_h hy₂ (east-moves x₁ x₂ hx₁ hx₂),
      ))

-- ---- rounding

nearest-moves : (s t : ℤ) (d : ℕ) → 0 < d → gap (nearest_whole s d) (nearest_whole t d) * d ≤ d + gap s t
unfolding gap
nearest-moves s t d h =
    omega (
      arith,
      ap nat_abs (expand (nearest_whole s d) (nearest_whole t d)),
      abs-mul (pos (2 * d)) (nearest_whole s d -ℤ nearest_whole t d),
      abs-add (off_s -ℤ off_t) (pos 2 *ℤ (s -ℤ t)),
      abs-add off_s (neg_ℤ off_t),
      abs_neg off_t,
      abs-mul (pos 2) (s -ℤ t),
      nearest-close s d h,
      nearest-close t d h,
    )
  where
    off_s : ℤ
    off_s = pos (2 * d) *ℤ nearest_whole s d -ℤ pos 2 *ℤ s

    off_t : ℤ
    off_t = pos (2 * d) *ℤ nearest_whole t d -ℤ pos 2 *ℤ t

    expand : (p q : ℤ) → pos (2 * d) *ℤ (p -ℤ q) ≡ ((pos (2 * d) *ℤ p -ℤ pos 2 *ℤ s) -ℤ (pos (2 * d) *ℤ q -ℤ pos 2 *ℤ t)) +ℤ pos 2 *ℤ (s -ℤ t)
    expand p q =
        ring (nat (2 * d) ⊠ (at p ⊟ at q))
        (((nat (2 * d) ⊠ at p ⊟ nat 2 ⊠ at s) ⊟ (nat (2 * d) ⊠ at q ⊟ nat 2 ⊠ at t)) ⊞ nat 2 ⊠ (at s ⊟ at t)) (omega arith)

-- ---- the two positions

pub lipschitz : (g : Surface) → 0 < g.H → 0 < g.W → (u₁ v₁ u₂ v₂ : ℤ) →
    outside g.H u₁ ≡ false → outside g.W v₁ ≡ false → outside g.H u₂ ≡ false → outside g.W v₂ ≡ false →
    LipschitzBound g (interpolated g u₁ v₁) (interpolated g u₂ v₂) (gap u₁ u₂) (gap v₁ v₂)
unfolding interpolated
lipschitz g p_h p_w u₁ v₁ u₂ v₂ a₁ b₁ a₂ b₂ =
    omega (
      arith,
      ap (λ n. n * (g.H * g.W)) (shifted (nearest_whole (exact g y₁ x₁) (g.H * g.W)) (nearest_whole (exact g y₂ x₂) (g.H * g.W))),
      nearest-moves (exact g y₁ x₁) (exact g y₂ x₂) (g.H * g.W) (mul-pos p_h p_w),
      exact-near g p_h p_w y₁ x₁ y₂ x₂ (steps-most g.H u₁ a₁) (steps-most g.W v₁ b₁) (steps-most g.H u₂ a₂) (steps-most g.W v₂ b₂),
      ap (λ n. n * column_difference g * g.W) (steps-gap g.H u₁ u₂ a₁ a₂),
      ap (λ n. n * row_difference g * g.H) (steps-gap g.W v₁ v₂ b₁ b₂),
    )
  where
    y₁ : ℕ
    y₁ = nat_abs (from_edge g.H u₁)

    y₂ : ℕ
    y₂ = nat_abs (from_edge g.H u₂)

    x₁ : ℕ
    x₁ = nat_abs (from_edge g.W v₁)

    x₂ : ℕ
    x₂ = nat_abs (from_edge g.W v₂)

    shifted : (a b : ℤ) → gap (g.mean +ℤ a) (g.mean +ℤ b) ≡ gap a b
    shifted a b = ap₂ gap (+ℤ_comm g.mean a) (+ℤ_comm g.mean b) ∙ gap-add a b g.mean
