-- How the number that digits spell goes on from one byte to the next, and what `natural` answers.
-- Assumes nothing.
use Prim.Native.Nat.{ℕ, suc, ◌+◌, ◌*◌, ◌^◌, ◌≤◌, ◌<◌}
use native.Mathlib.Numerals.{add-one}
use native.Mathlib.Omega.{arith}
use mathlib.Core.Path.{◌≡◌, refl, sym}
use mathlib.Core.Bool.{Bool, true, false, ◌&&◌}
use mathlib.Core.List.{List, [], ◌∷◌}
use lib.Dec.{eqb}
use lib.Pointwise.{pointwise}
use Rattle.std.specs.Prelude.{Some, None}
use lib.ListN.{length, get_or, take, drop, drop_of_length-le}
use lib.Seq.{drop-cons}
use borrow.Author.Tests.{lt-ltb, le-ltb}
use Rattle.text_numerals.specs.Inner.{digits_only, numeral, spelled, natural, positive, negative, whole, digit}

module _ (s : List ℕ) (k : ℕ) where
  pub digits-end : length s ≤ k → digits_only (drop k s) ≡ true
  unfolding digits_only
  digits-end h = rw (drop_of_length-le s {i = k} h)

  pub spelled-end : (n : ℕ) → length s ≤ k → spelled n (drop k s) ≡ n
  unfolding spelled
  spelled-end n h = rw (drop_of_length-le s {i = k} h)

  module _ (h : k < length s) where
    pub digits-bad : 9 < digit (get_or s k 0) → digits_only (drop k s) ≡ false
    unfolding digits_only
    digits-bad e = rw (drop-cons s k 0 h, le-ltb (digit (get_or s k 0)) 10 e)

    pub digits-on : digit (get_or s k 0) ≤ 9 → digits_only (drop k s) ≡ digits_only (drop (k + 1) s)
    unfolding digits_only
    digits-on e = rw (add-one k, drop-cons s k 0 h, lt-ltb (digit (get_or s k 0)) 10 (omega arith))

    pub spelled-on : (n : ℕ) → spelled n (drop k s) ≡ spelled (n * 10 + digit (get_or s k 0)) (drop (k + 1) s)
    unfolding spelled
    spelled-on n = rw (add-one k, drop-cons s k 0 h)

pub spelled-least : (n : ℕ) (s : List ℕ) → n ≤ spelled n s
unfolding spelled
spelled-least n [] = omega arith
spelled-least n (b ∷ s) = omega (arith, spelled-least (n * 10 + digit b) s)

and-false : (x : Bool) → (x && false) ≡ false
and-false true = refl
and-false false = refl

pub natural-none : (s : List ℕ) → length s ≡ 0 → natural s ≡ None
unfolding natural numeral
natural-none [] h = refl
natural-none (b ∷ s) h = absurd (let z : suc (length s) ≡ 0 = h in omega arith)

pub natural-bad : (s : List ℕ) → digits_only s ≡ false → natural s ≡ None
unfolding natural numeral
natural-bad [] h = refl
natural-bad (b ∷ s) h = rw h

pub natural-large : (s : List ℕ) → 2 ^ 64 ≤ spelled 0 s → natural s ≡ None
unfolding natural
natural-large s h = rw (le-ltb (spelled 0 s) (2 ^ 64) h, and-false (numeral s))

pub natural-is : (s : List ℕ) → (length s ≡ 0 → ⊥) → digits_only s ≡ true → spelled 0 s < 2 ^ 64 → natural s ≡ Some (spelled 0 s)
unfolding natural numeral
natural-is [] n d h = absurd (n refl)
natural-is (b ∷ s) n d h = rw (d, lt-ltb (spelled 0 (b ∷ s)) (2 ^ 64) h)

and_true : (x : Bool) → (x && true) ≡ x
and_true true = refl
and_true false = refl

-- whether a text begins with a minus sign
minus : (s : List ℕ) → eqb (get_or s 0 0) 45 ≡ pointwise eqb (take 1 s) (45 ∷ [])
minus [] = refl
minus (b ∷ s) = sym (and_true (eqb b 45))

module _ (s : List ℕ) where
  pub whole_negative : pointwise eqb (take 1 s) (45 ∷ []) ≡ true → whole s ≡ negative (natural (drop 1 s))
  unfolding whole
  whole_negative e = rw (minus s, e)

  pub whole_positive : pointwise eqb (take 1 s) (45 ∷ []) ≡ false → whole s ≡ positive (natural s)
  unfolding whole
  whole_positive e = rw (minus s, e)
