-- What is written is read back, and no numeral begins with a zero but that of 0.
-- Assumes nothing.
use Prim.Native.Nat.{ℕ, zero, suc, ◌+◌, ◌*◌, ◌/◌, ◌%◌, ◌^◌, ◌≤◌, ◌<◌}
use native.Mathlib.Nat.{pow-suc}
use native.Mathlib.Omega.{arith}
use mathlib.Core.Path.{◌≡◌, refl, ap, ◌∙◌}
use mathlib.Core.Bool.{Bool, true, false}
use mathlib.Core.List.{List, [], ◌∷◌, ◌++◌}
use lib.Dec.{ltb}
use Rattle.std.specs.Prelude.{Some}
use lib.ListN.{length, get_or, length-append, get_or-append}
use lib.IntN.{ℤ, pos, negsuc}
use lib.Signed.{mag}
use borrow.Author.Tests.{lt-ltb, le-ltb, le-leb, lt-leb, ltb-true, ltb-false, ne_eqb}
use Rattle.text_numerals.specs.Inner.{digits_only, spelled, natural, positive, negative, whole, digits_of, decimal, whole_decimal, digit, glyph, pairs, bytes_of, pairs_of}
use Rattle.text_numerals.proofs.Reading.{natural-is}
use Rattle.text_numerals.proofs.Writing.{glyph-low}
use Rattle.text_numerals.proofs.DigitPairs.{and_both}

-- ---- a digit

digit_low : (n : ℕ) → n < 10 → digit (48 + n) ≡ n
unfolding digit
digit_low n h = rw (le-leb 48 (48 + n) (omega arith), le-leb (48 + n) 57 (omega arith)) (omega arith)

digit-high : (n : ℕ) → 10 ≤ n → n < 16 → digit (87 + n) ≡ n
unfolding digit
digit-high n h g =
    rw (le-leb 48 (87 + n) (omega arith), lt-leb (87 + n) 57 (omega arith), le-leb 97 (87 + n) (omega arith), le-leb (87 + n) 102 (omega arith)) (omega arith)

glyph-high : (n : ℕ) → 10 ≤ n → glyph n ≡ 87 + n
unfolding glyph
glyph-high n h = rw (le-ltb n 10 h)

digit-by : (n : ℕ) → n < 16 → (e : Bool) → ltb n 10 ≡ e → digit (glyph n) ≡ n
digit-by n h true e = let l = ltb-true n 10 e in ap digit (glyph-low n l) ∙ digit_low n l
digit-by n h false e = let l = ltb-false n 10 e in ap digit (glyph-high n l) ∙ digit-high n l h

pub digit_glyph : (n : ℕ) → n < 16 → digit (glyph n) ≡ n
digit_glyph n h = digit-by n h (ltb n 10) refl

-- ---- a numeral

spelled-more : (n : ℕ) (s : List ℕ) (b : ℕ) → spelled n (s ++ (b ∷ [])) ≡ spelled n s * 10 + digit b
unfolding spelled
spelled-more n [] b = refl
spelled-more n (x ∷ s) b = spelled-more (n * 10 + digit x) s b

only-more : (s : List ℕ) (b : ℕ) → digits_only s ≡ true → digit b < 10 → digits_only (s ++ (b ∷ [])) ≡ true
unfolding digits_only
only-more [] b e h = rw (lt-ltb (digit b) 10 h)
only-more (x ∷ s) b e h =
    let q = and_both (ltb (digit x) 10) (digits_only s) e in
    rw q.0 (only-more s b q.1 h)

module _ (k n : ℕ) where
  short : n < 10 → digits_of (suc k) n ≡ glyph n ∷ []
  unfolding digits_of
  short h = rw (lt-ltb n 10 h)

  long : 10 ≤ n → digits_of (suc k) n ≡ digits_of k (n / 10) ++ (glyph (n % 10) ∷ [])
  unfolding digits_of
  long h = rw (le-ltb n 10 h)

  fewer : n < 10 ^ suc k → n / 10 < 10 ^ k
  fewer h = let q = rw (pow-suc 10 k) at h in omega arith

-- the digits of a number
record Written (k n : ℕ) : Type 0 where
  value : spelled 0 (digits_of k n) ≡ n
  digits : digits_only (digits_of k n) ≡ true
  some : 0 < n → 0 < length (digits_of k n)
  first : 0 < n → get_or (digits_of k n) 0 0 ≡ 48 → ⊥

written_none : (n : ℕ) → n < 10 ^ 0 → Written 0 n
unfolding digits_of spelled digits_only
written_none n h =
    let z : n < 1 = h in
    record { value = omega arith; digits = refl; some = λ p. omega arith; first = λ p. λ e. omega arith }

written-short : (k n : ℕ) → n < 10 → Written (suc k) n
unfolding spelled digits_only
written-short k n h =
    let d : digit (glyph n) ≡ n = digit_glyph n (omega arith) in
    let l : digit (glyph n) < 10 = omega arith in
    let g = glyph-low n h in
    record {
      value = rw (short k n h) (omega arith);
      digits = rw (short k n h, lt-ltb (digit (glyph n)) 10 l);
      some = λ p. rw (short k n h) (omega arith);
      first = λ p. rw (short k n h) (λ e. omega arith);
    }

written-long : (k n : ℕ) → 10 ≤ n → Written k (n / 10) → Written (suc k) n
written-long k n h w =
    let s = digits_of k (n / 10) in
    let b = glyph (n % 10) in
    let d : digit b ≡ n % 10 = digit_glyph (n % 10) (omega arith) in
    let v : spelled 0 s ≡ n / 10 = w.value in
    let m : 0 < length s = w.some (omega arith) in
    record {
      value = ap (spelled 0) (long k n h) ∙ spelled-more 0 s b ∙ omega arith;
      digits = ap digits_only (long k n h) ∙ only-more s b w.digits (omega arith);
      some = λ p. rw (long k n h, length-append s (b ∷ [])) (omega arith);
      first = λ p. rw (long k n h, get_or-append s (b ∷ []) 0 0 m) (w.first (omega arith));
    }

written-by : (k n : ℕ) → Written k (n / 10) → (e : Bool) → ltb n 10 ≡ e → Written (suc k) n
written-by k n w true e = written-short k n (ltb-true n 10 e)
written-by k n w false e = written-long k n (ltb-false n 10 e) w

written : (k n : ℕ) → n < 10 ^ k → Written k n
written zero n h = written_none n h
written (suc k) n h = written-by k n (written k (n / 10) (fewer k n h)) (ltb n 10) refl

some-by : (k n : ℕ) (e : Bool) → ltb n 10 ≡ e → length (digits_of (suc k) n) ≡ 0 → ⊥
some-by k n true e = rw (short k n (ltb-true n 10 e)) (λ z. omega arith)
some-by k n false e = rw (long k n (ltb-false n 10 e), length-append (digits_of k (n / 10)) (glyph (n % 10) ∷ [])) (λ z. omega arith)

module _ (n : ℕ) (h : n < 2 ^ 64) where
  numeral-of : Written 20 n
  numeral-of = written 20 n (omega arith)

  pub no_zero : 0 < n → get_or (decimal n) 0 0 ≡ 48 → ⊥
  unfolding decimal
  no_zero p e = numeral-of.first p e

  decimal-value : spelled 0 (decimal n) ≡ n
  unfolding decimal
  decimal-value = numeral-of.value

  decimal-digits : digits_only (decimal n) ≡ true
  unfolding decimal
  decimal-digits = numeral-of.digits

  decimal-some : length (decimal n) ≡ 0 → ⊥
  unfolding decimal
  decimal-some = some-by 19 n (ltb n 10) refl

  pub natural-back : natural (decimal n) ≡ Some n
  natural-back =
      let v = decimal-value in
      natural-is (decimal n) decimal-some decimal-digits (omega arith) ∙ ap Some v

-- ---- a number with a sign

no_sign : (s : List ℕ) → (length s ≡ 0 → ⊥) → digits_only s ≡ true → get_or s 0 0 ≡ 45 → ⊥
unfolding digits_only digit
no_sign [] n e q = n refl
no_sign (b ∷ s) n e q = let z : ◌≡◌ {A = Bool} false true = rw q at e in let o : ◌≡◌ {A = ℕ} 0 1 = cc in omega arith

pub whole_back : (z : ℤ) → mag z < 2 ^ 63 → whole (whole_decimal z) ≡ Some z
unfolding whole whole_decimal positive negative
whole_back (pos n) h =
    let l : n < 2 ^ 64 = omega arith in
    rw (ne_eqb (get_or (decimal n) 0 0) 45 (no_sign (decimal n) (decimal-some n l) (decimal-digits n l)), natural-back n l, lt-ltb n (2 ^ 63) h)
whole_back (negsuc n) h =
    let l : suc n < 2 ^ 64 = omega arith in
    rw (natural-back (suc n) l, le-leb (suc n) (2 ^ 63) h)

-- ---- bytes

pub record Back (s : List ℕ) : Type 0 where
  pub accepted : pairs (pairs_of s) ≡ true
  pub same : bytes_of (pairs_of s) ≡ s

pub bytes_back : (s : List ℕ) → ((k : ℕ) → k < length s → get_or s k 0 < 256) → Back s
unfolding pairs pairs_of bytes_of
bytes_back [] h = record { accepted = refl; same = refl }
bytes_back (b ∷ s) h =
    let l : b < 256 = h 0 (omega arith) in
    let p : digit (glyph (b / 16)) ≡ b / 16 = digit_glyph (b / 16) (omega arith) in
    let q : digit (glyph (b % 16)) ≡ b % 16 = digit_glyph (b % 16) (omega arith) in
    let i : b / 16 < 16 = omega arith in
    let j : b % 16 < 16 = omega arith in
    let v : b / 16 * 16 + b % 16 ≡ b = omega arith in
    let r = bytes_back s (λ k m. h (suc k) (omega arith)) in
    record {
      accepted = rw (p, q, lt-ltb (b / 16) 16 i, lt-ltb (b % 16) 16 j) r.accepted;
      same = rw (p, q, v, r.same);
    }
