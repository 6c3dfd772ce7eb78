-- What `position` and `any` find, as `first_of` says it.
-- Assumes nothing.
use Prim.Native.Nat.{ℕ, ◌<◌, ◌≤◌}
use native.Mathlib.Decide.{dec_lt}
use native.Mathlib.Omega.{arith}
use mathlib.Core.Path.{◌≡◌, refl, ap, ◌∙◌}
use mathlib.Core.Bool.{Bool, true, false, not, cond}
use mathlib.Core.List.{List}
use lib.Dec.{eqb, ltb}
use lib.ListN.{length, get_or}
use borrow.Author.Tests.{eq-eqb, ne_eqb, lt-ltb, le-ltb}
use Rattle.table_slots.specs.Slots.{slots}
use Rattle.table_slots.specs.Inner.{place_in}
use Rattle.std.specs.Prelude.{Option, position, Some, None}
use Rattle.std.specs.List.{list_any, position_or_len}
use Rattle.std.proofs.lemmas.List.Elements.{All-from_get_or}
use Rattle.std.proofs.lemmas.List.Folds.{list_any_at, list_any_none}
use Rattle.std.proofs.lemmas.List.Sums.{position_or_len_is}
use Rattle.arith.specs.Places.{first_of}
use Rattle.arith.proofs.Places.{First, first}

not-not : (b : Bool) → not (not b) ≡ b
not-not true = refl
not-not false = refl

module _ (p : ℕ → Bool) (xs : List ℕ) (q : ℕ → Bool) (n : ℕ) (size : length xs ≡ n) (same : (i : ℕ) → i < n → p (get_or xs i 0) ≡ q i) where
  abbrev at : ℕ
  at = first_of q 0 n

  is : First q n at
  is = first q n

  pub place-of : position p xs ≡ cond (ltb at n) (Some at) None
  place-of =
      let e : position_or_len p xs ≡ at =
      position_or_len_is p xs at 0 (omega (arith, is.top)) (λ k h. same k (omega (arith, is.top)) ∙ is.before k h) (λ h. same at (omega arith) ∙ is.holds (omega arith)) in
      rw (e, size)

  pub any-of : list_any p xs ≡ not (eqb at n)
  any-of = by (dec_lt at n)
    where
      by : Dec (at < n) → list_any p xs ≡ not (eqb at n)
      by (yes h) = rw (list_any_at p xs at 0 (omega arith) (same at h ∙ is.holds h), ne_eqb at n (λ e. omega arith))
      by (no h) =
          let e : at ≡ n = omega (arith, is.top) in
          rw (list_any_none p xs (All-from_get_or (λ x. p x ≡ false) xs 0 (λ k l. same k (omega arith) ∙ is.before k (omega arith))), eq-eqb at n e)

  pub none-of : not (list_any p xs) ≡ eqb at n
  none-of = ap not any-of ∙ not-not (eqb at n)

-- ---- a place that may be none

pub place-some : {i p : ℕ} → ◌≡◌ {A = Option ℕ} (Some i) (place_in p) → (i ≡ p) × (p < slots)
unfolding place_in
place-some {i} {p} e = by (dec_lt p slots)
  where
    by : Dec (p < slots) → (i ≡ p) × (p < slots)
    by (yes h) = let z : ◌≡◌ {A = Option ℕ} (Some i) (Some p) = e ∙ rw (lt-ltb p slots h) in (cc, h)
    by (no h) = let z : ◌≡◌ {A = Option ℕ} (Some i) None = e ∙ rw (le-ltb p slots (omega arith)) in cc

pub place-none : {p : ℕ} → ((i : ℕ) → ◌≡◌ {A = Option ℕ} (place_in p) (Some i) → ⊥) → slots ≤ p
unfolding place_in
place-none {p} n = by (dec_lt p slots)
  where
    by : Dec (p < slots) → slots ≤ p
    by (yes h) = absurd (n p (rw (lt-ltb p slots h)))
    by (no h) = omega arith
