-- Where a position stands along one direction: the steps from the edge, and the cell.
-- Assumes nothing.
use mathlib.Core.Path.{◌≡◌, ap, ap₂, sym, ◌∙◌, subst}
use mathlib.Core.Bool.{false}
use mathlib.Core.Logic.{◌⊎◌, inl, inr}
use Prim.Native.Nat.{ℕ, zero, suc, ◌+◌, ◌*◌, ◌/◌, ◌≤◌, ◌<◌, min}
use native.Mathlib.Nat.{mul-le-mul_right, suc-mul, zero-mul, div-mul-le_self, lt-div-mul-add, div-eq_of_lt-le, le-div_iff_mul-le, eq-or-lt_of_le, min-le_right, le_trans, min-eq_left, min-eq_right}
use native.Mathlib.Numerals.{add-one}
use native.Mathlib.Omega.{arith}
use lib.IntN.{ℤ, pos, nat_abs}
use lib.Signed.{lt_z, ◌≤ℤ◌}
use Rattle.arith.proofs.First.{or-false}
use Rattle.arith.proofs.Int.{abs-most, abs-above, not-less}
use Rattle.grid_bilinear.specs.Bilinear.{gap, from_edge, outside, cell}
use Rattle.grid_bilinear.proofs.Gap.{gap-add}

-- ---- the steps from the edge

module _ (d : ℕ) (u : ℤ) (h : outside d u ≡ false) where
  pub inside : (pos 0 ≤ℤ from_edge d u) × (from_edge d u ≤ℤ pos (3 * d))
  unfolding outside
  inside = (not-less neither.0, not-less neither.1)
    where
      neither : (lt_z (from_edge d u) (pos 0) ≡ false) × (lt_z (pos (3 * d)) (from_edge d u) ≡ false)
      neither = or-false (lt_z (from_edge d u) (pos 0)) (lt_z (pos (3 * d)) (from_edge d u)) h

  pub steps-most : nat_abs (from_edge d u) ≤ 3 * d
  steps-most = abs-most inside.0 inside.1

  pub steps-are : from_edge d u ≡ pos (nat_abs (from_edge d u))
  steps-are = abs-above inside.0

-- two positions are as far apart as their steps from the edge
pub steps-gap : (d : ℕ) (u₁ u₂ : ℤ) → outside d u₁ ≡ false → outside d u₂ ≡ false → gap (pos (nat_abs (from_edge d u₁))) (pos (nat_abs (from_edge d u₂))) ≡ gap u₁ u₂
unfolding from_edge
steps-gap d u₁ u₂ h₁ h₂ = sym (ap₂ gap (steps-are d u₁ h₁) (steps-are d u₂ h₂)) ∙ gap-add u₁ u₂ _

-- ---- the cell

pub cell-le : (d t : ℕ) → cell d t ≤ 2
unfolding cell
cell-le d t = omega arith

pub cell-from : (d t : ℕ) → cell d t * d ≤ t
unfolding cell
cell-from d t = le_trans (mul-le-mul_right d (min-le_right _ (t / d))) (div-mul-le_self t d)

-- below the far edge, the cell's own far edge is ahead
pub cell-to : (d t : ℕ) → t < 3 * d → t < suc (cell d t) * d
unfolding cell
cell-to d t h = go (t / d) (lt-div-mul-add (omega arith))
  where
    two : (q : ℕ) → 2 ≡ min 2 (suc (suc q))
    two q = omega arith

    go : (q : ℕ) → t < q * d + d → t < suc (min 2 q) * d
    go zero b = omega (arith, suc-mul 0 d, zero-mul d)
    go (suc zero) b = omega (arith, suc-mul 1 d)
    go (suc (suc q)) b = subst (λ c. t < suc c * d) (two q) h

pub cell-is : (d t k : ℕ) → k ≤ 2 → k * d ≤ t → t < suc k * d → cell d t ≡ k
unfolding cell
cell-is d t k h a b = ap (min 2) (div-eq_of_lt-le d a (subst (λ m. t < m * d) (sym (add-one k)) b)) ∙ min-eq_right h

pub cell-far : (d t : ℕ) → 0 < d → 2 * d ≤ t → cell d t ≡ 2
unfolding cell
cell-far d t p h = min-eq_left ((le-div_iff_mul-le p).1 h)

pub cell-upto : (d t : ℕ) → 0 < d → t ≤ 3 * d → t ≤ suc (cell d t) * d
cell-upto d t p h = go (eq-or-lt_of_le h)
  where
    go : (t ≡ 3 * d) ⊎ (t < 3 * d) → t ≤ suc (cell d t) * d
    go (inl e) = subst (λ c. t ≤ suc c * d) (sym (cell-far d t p (omega arith))) (omega arith)
    go (inr l) = omega (arith, cell-to d t l)
