-- `all`, `any` and `position` over the numbers below n, as `all_below` and `first_of` say them.
-- Assumes nothing.
use Prim.Native.Nat.{ℕ, zero, suc, ◌≤◌, ◌<◌}
use native.Mathlib.Decide.{dec_lt}
use native.Mathlib.Numerals.{add-one}
use native.Mathlib.Omega.{arith}
use mathlib.Core.Path.{◌≡◌, refl, sym, ap, ◌∙◌}
use mathlib.Core.Bool.{Bool, false}
use mathlib.Core.List.{List}
use lib.Dec.{ltb}
use lib.ListN.{length, get_or, take}
use borrow.Author.Tests.{lt-ltb, le-ltb}
use Rattle.std.specs.Prelude.{unwrap_or}
use Rattle.std.specs.List.{list_all, list_any, position, position_or_len, range_with_len}
use Rattle.std.proofs.lemmas.List.{take_all}
use Rattle.std.proofs.lemmas.List.Elements.{All-from_get_or}
use Rattle.std.proofs.lemmas.List.Folds.{list_all_more, list_any_at, list_any_none}
use Rattle.std.proofs.lemmas.List.FromFn.{length-range_with_len, get_or-range_with_len}
use Rattle.std.proofs.lemmas.List.Sums.{position_or_len_is}
use Rattle.arith.specs.Lists.{all_below}
use Rattle.arith.specs.Places.{first_of}
use Rattle.arith.proofs.Places.{First, first}

module _ (f : ℕ → Bool) (n : ℕ) where
  abbrev numbers : List ℕ
  numbers = range_with_len 0 n

  sized : length numbers ≡ n
  sized = length-range_with_len 0 n

  here : (i : ℕ) → i < n → f (get_or numbers i 0) ≡ f i
  here i h = let e : get_or numbers i 0 ≡ i = omega (arith, get_or-range_with_len 0 n i 0 h) in ap f e

  front : (k : ℕ) → k ≤ n → list_all f (take k numbers) ≡ all_below f k
  front zero h = refl
  front (suc k) h =
      rw (← add-one k, list_all_more f numbers k 0 (omega (arith, sized)), front k (omega arith), here k (omega arith))

  pub all-of : list_all f numbers ≡ all_below f n
  all-of = ap (list_all f) (sym (take_all n numbers (omega (arith, sized)))) ∙ front n (omega arith)

  abbrev at : ℕ
  at = first_of f 0 n

  is : First f n at
  is = first f n

  pub any-of : list_any f numbers ≡ ltb at n
  any-of = by (dec_lt at n)
    where
      by : Dec (at < n) → list_any f numbers ≡ ltb at n
      by (yes h) = rw (list_any_at f numbers at 0 (omega (arith, sized)) (here at h ∙ is.holds h), lt-ltb at n h)
      by (no h) =
          rw (list_any_none f numbers (All-from_get_or (λ x. f x ≡ false) numbers 0 (λ k l. here k (omega (arith, sized)) ∙ is.before k (omega (arith, sized)))), le-ltb at n (omega arith))

  pub place-of : unwrap_or (position f numbers) n ≡ at
  place-of =
      by (dec_lt at n) (position_or_len_is f numbers at 0 (omega (arith, sized, is.top)) (λ k h. here k (omega (arith, is.top)) ∙ is.before k h) (λ h. here at (omega (arith, sized)) ∙ is.holds (omega (arith, sized))))
    where
      by : Dec (at < n) → position_or_len f numbers ≡ at → unwrap_or (position f numbers) n ≡ at
      by (yes h) e = rw (e, sized, lt-ltb at n h)
      by (no h) e = rw (e, sized, le-ltb at n (omega arith)) (omega (arith, is.top))
