-- A loop that asks a test at each place and stops at the first that fails.
-- Assumes nothing.
use Prim.Native.Nat.{ℕ, zero, suc, ◌+◌, ◌<◌}
use native.Mathlib.Nat.{eq-or-lt_of_le, le_of_suc-le-suc, not-suc-le-zero}
use native.Mathlib.Omega.{arith}
use native.Mathlib.Numerals.{add-one}
use mathlib.Core.Path.{◌≡◌, refl, sym, subst}
use mathlib.Core.Logic.{⊎_elim}
use mathlib.Core.Bool.{Bool, true, false, ◌&&◌}
use Rattle.arith.specs.Lists.{all_below}

pub false-ne-true : ◌≡◌ {A = Bool} false true → ⊥
false-ne-true p = let z : ◌≡◌ {A = ℕ} 0 1 = cc in omega arith

either-false : (b : Bool) → (b && false) ≡ false
either-false true = refl
either-false false = refl

pub both_first : (a b : Bool) → (a && b) ≡ true → a ≡ true
both_first true b p = refl
both_first false b p = p

pub both-second : (a b : Bool) → (a && b) ≡ true → b ≡ true
both-second true b p = p
both-second false b p = absurd (false-ne-true p)

module _ (f : ℕ → Bool) where
  pub all_more : (k : ℕ) → all_below f k ≡ true → f k ≡ true → all_below f (k + 1) ≡ true
  all_more k p q = rw (add-one k, p) q

  pub all-stops : (k n : ℕ) → f k ≡ false → k < n → all_below f n ≡ false
  all-stops k zero q h = absurd (not-suc-le-zero h)
  all-stops k (suc n) q h =
      ⊎_elim
      (λ e. let z : f n ≡ false = subst (λ (m : ℕ). f m ≡ false) e q in rw z (either-false (all_below f n)))
      (λ l. rw (all-stops k n q l))
      (eq-or-lt_of_le (le_of_suc-le-suc h))

  -- what holds of all holds of each
  pub all-at : (n : ℕ) → all_below f n ≡ true → (k : ℕ) → k < n → f k ≡ true
  all-at zero p k h = absurd (not-suc-le-zero h)
  all-at (suc n) p k h =
      ⊎_elim
      (λ e. subst (λ (m : ℕ). f m ≡ true) (sym e) (both-second (all_below f n) (f n) p))
      (λ l. all-at n (both_first (all_below f n) (f n) p) k l)
      (eq-or-lt_of_le (le_of_suc-le-suc h))
