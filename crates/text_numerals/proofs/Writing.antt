-- A number's digits stored from the last one on.
-- Assumes nothing.
use Prim.Native.Nat.{ℕ, suc, ◌+◌, ◌/◌, ◌%◌, ◌≤◌, ◌<◌}
use native.Mathlib.Numerals.{add-one}
use native.Mathlib.Omega.{arith}
use mathlib.Core.Path.{◌≡◌, sym, ap, ◌∙◌}
use mathlib.Core.List.{List, ◌∷◌, ◌++◌, append-nil}
use lib.ListN.{length, set, drop, length-set, drop_of_length-le}
use lib.Seq.{drop-cons, get_or-set_same, drop-set-lt, append_snoc}
use borrow.Author.Tests.{lt-ltb, le-ltb}
use Rattle.text_numerals.specs.Inner.{digits_of, decimal, glyph}

pub glyph-low : (n : ℕ) → n < 10 → glyph n ≡ 48 + n
unfolding glyph
glyph-low n h = rw (lt-ltb n 10 h)

-- a store, and what stands from there on
pub stored : (t : List ℕ) (k v : ℕ) → k < length t → drop k (set t k v) ≡ v ∷ drop (suc k) t
stored t k v h =
    drop-cons (set t k v) k 0 (simp length-set h)
    ∙ ap (λ x. x ∷ drop (suc k) (set t k v)) (get_or-set_same t k v 0 h)
    ∙ ap (λ r. v ∷ r) (drop-set-lt (suc k) t k v (omega arith))

pub digits-start : (n : ℕ) (t : List ℕ) → length t ≡ 21 → decimal n ≡ digits_of 20 n ++ drop (20 + 1) t
unfolding decimal
digits-start n t h = rw (drop_of_length-le t {i = 21} (omega arith)) (sym (append-nil (digits_of 20 n)))

module _ (t : List ℕ) (j m : ℕ) (h : suc j < length t) where
  put-digit : drop (j + 1) (set t (suc j) (48 + m % 10)) ≡ glyph (m % 10) ∷ drop (suc j + 1) t
  put-digit =
      rw (add-one j, add-one (suc j))
      (stored t (suc j) (48 + m % 10) h ∙ ap (λ v. v ∷ drop (suc (suc j)) t) (sym (glyph-low (m % 10) (omega arith))))

  last-suc : m < 10 → digits_of (suc j) m ++ drop (suc j + 1) t ≡ drop (j + 1) (set t (suc j) (48 + m % 10))
  unfolding digits_of
  last-suc e =
      let q : m % 10 ≡ m = omega arith in
      rw (lt-ltb m 10 e) (sym (put-digit ∙ ap (λ v. glyph v ∷ drop (suc j + 1) t) q))

  on-suc : 10 ≤ m → digits_of (suc j) m ++ drop (suc j + 1) t ≡ digits_of j (m / 10) ++ drop (j + 1) (set t (suc j) (48 + m % 10))
  unfolding digits_of
  on-suc e =
      rw (le-ltb m 10 e)
      (append_snoc (digits_of j (m / 10)) (glyph (m % 10)) (drop (suc j + 1) t) ∙ ap (λ r. digits_of j (m / 10) ++ r) (sym put-digit))

module _ (t : List ℕ) (k j m : ℕ) (q : k ≡ suc j) (h : k < length t) where
  pub digits_last : m < 10 → digits_of k m ++ drop (k + 1) t ≡ drop (j + 1) (set t k (48 + m % 10))
  digits_last e = let i : suc j < length t = omega arith in rw q (last-suc t j m i e)

  pub digits-on : 10 ≤ m → digits_of k m ++ drop (k + 1) t ≡ digits_of j (m / 10) ++ drop (j + 1) (set t k (48 + m % 10))
  digits-on e = let i : suc j < length t = omega arith in rw q (on-suc t j m i e)

pub digits-none : (k m : ℕ) (r : List ℕ) → k ≤ 0 → digits_of k m ++ r ≡ r
unfolding digits_of
digits-none k m r h = let q : k ≡ 0 = omega arith in rw q
