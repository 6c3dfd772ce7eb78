-- Numbers in bytes: both ways they are inverse, over any number of bytes, and for whole numbers in 8 bytes.
-- Assumes nothing.
use Rattle.std.proofs.Common.{Some}
use mathlib.Core.Path.{◌≡◌, refl, sym, ap, ◌∙◌}
use mathlib.Core.Bool.{cond}
use mathlib.Core.List.{List, [], ◌∷◌, ◌++◌, append_assoc}
use Prim.Native.Nat.{ℕ, zero, suc, ◌+◌, ◌-◌, ◌*◌, ◌/◌, ◌%◌, ◌^◌, ◌≤◌, ◌<◌}
use native.Mathlib.Nat.{div-add-mod'}
use native.Mathlib.Numerals.{add-one}
use native.Mathlib.Omega.{arith}
use native.Mathlib.Decide.{dec_lt}
use borrow.Author.Tests.{lt-ltb, le-ltb, le-leb}
use lib.Dec.{ltb}
use lib.IntN.{ℤ, pos, negsuc}
use lib.ListN.{length, get_or, take, drop, length-append}
use lib.Pow.{pow-add}
use lib.Seq.{get_or_at, take-suc}
use lib.Signed.{mag}
use Rattle.field.specs.Field.{twos, pattern_of}
use Rattle.sample_numbers.specs.Number.{number, bytes_of, whole, whole_bytes, put_bytes}
use Rattle.sample_numbers.specs.Inner.{number_at, whole_at}

-- ---- both ways

pub length-bytes_of : (k v : ℕ) → length (bytes_of k v) ≡ k
unfolding bytes_of
length-bytes_of zero v = refl
length-bytes_of (suc k) v = length-append (bytes_of k (v / 256)) (v % 256 ∷ []) ∙ ap (λ (n : ℕ). n + 1) (length-bytes_of k (v / 256)) ∙ add-one k

-- one byte more
pub room-suc : (k : ℕ) → 2 ^ (8 * suc k) ≡ 2 ^ (8 * k) * 256
room-suc k = ap (λ (n : ℕ). 2 ^ n) (omega arith) ∙ pow-add 2 (8 * k) 8

-- law: the number of the bytes of a number
pub number-bytes_of : (k v : ℕ) (t : List ℕ) → v < 2 ^ (8 * k) → number k (bytes_of k v ++ t) ≡ v
unfolding number bytes_of
number-bytes_of zero v t h = omega arith
number-bytes_of (suc k) v t h =
    let q : v < 2 ^ (8 * k) * 256 = rw (room-suc k) at h in
    rw (append_assoc (bytes_of k (v / 256)) (v % 256 ∷ []) t)
    (ap (λ (n : ℕ). n * 256 + get_or (bytes_of k (v / 256) ++ (v % 256 ∷ t)) k 0) (number-bytes_of k (v / 256) (v % 256 ∷ t) (omega arith))
    ∙ ap (λ (n : ℕ). v / 256 * 256 + n) (get_or_at (bytes_of k (v / 256)) (v % 256) t 0 k (length-bytes_of k (v / 256)))
    ∙ div-add-mod' v 256)

pub number_lt : (s : List ℕ) → ((i : ℕ) → get_or s i 0 < 256) → (k : ℕ) → number k s < 2 ^ (8 * k)
unfolding number
number_lt s b zero = omega arith
number_lt s b (suc k) = rw (room-suc k) (omega (arith, b k, number_lt s b k))

-- law: the bytes of the number of bytes
pub bytes_of-number : (s : List ℕ) → ((i : ℕ) → get_or s i 0 < 256) → (k : ℕ) → k ≤ length s → bytes_of k (number k s) ≡ take k s
unfolding number bytes_of
bytes_of-number s b zero h = refl
bytes_of-number s b (suc k) h =
    let x : ℕ = number k s in
    let y : ℕ = get_or s k 0 in
    let q : (x * 256 + y) / 256 ≡ x = omega (arith, b k) in
    let r : (x * 256 + y) % 256 ≡ y = omega (arith, b k) in
    rw (q, r, bytes_of-number s b k (omega arith)) (sym (take-suc s k 0 h))

-- ---- whole numbers

pattern-low : (z : ℤ) → mag z < 2 ^ 63 → pattern_of 64 (Some z) < 2 ^ 64
pattern-low (pos n) h = omega arith
pattern-low (negsuc n) h = omega arith

twos-pattern : (z : ℤ) → mag z < 2 ^ 63 → twos 64 (pattern_of 64 (Some z)) ≡ z
unfolding twos
twos-pattern (pos n) h = rw (lt-ltb (n * 2) (2 ^ 64) (omega arith))
twos-pattern (negsuc n) h = rw (le-ltb ((2 ^ 64 - suc n) * 2) (2 ^ 64) (omega arith)) (ap negsuc (omega arith))

module _ (u : ℕ) (h : u < 2 ^ 64) where
  pattern-twos : pattern_of 64 (Some (twos 64 u)) ≡ u
  unfolding twos
  pattern-twos = by (dec_lt (u * 2) (2 ^ 64))
    where
      by : Dec (u * 2 < 2 ^ 64) → pattern_of 64 (Some (cond (ltb (u * 2) (2 ^ 64)) (pos u) (negsuc (2 ^ 64 - suc u)))) ≡ u
      by (yes l) = rw (lt-ltb (u * 2) (2 ^ 64) l)
      by (no l) = rw (le-ltb (u * 2) (2 ^ 64) (omega arith)) (omega arith)

  pub twos-held : mag (twos 64 u) < 2 ^ 63
  unfolding twos
  twos-held = by (dec_lt (u * 2) (2 ^ 64))
    where
      by : Dec (u * 2 < 2 ^ 64) → mag (cond (ltb (u * 2) (2 ^ 64)) (pos u) (negsuc (2 ^ 64 - suc u))) < 2 ^ 63
      by (yes l) = rw (lt-ltb (u * 2) (2 ^ 64) l) (omega arith)
      by (no l) = rw (le-ltb (u * 2) (2 ^ 64) (omega arith)) (omega arith)

pub length_whole : (z : ℤ) → length (whole_bytes z) ≡ 8
unfolding whole_bytes
length_whole z = length-bytes_of 8 (pattern_of 64 (Some z))

-- law: the whole number of its bytes
pub whole_back : (z : ℤ) (t : List ℕ) → mag z < 2 ^ 63 → whole (whole_bytes z ++ t) ≡ z
unfolding whole whole_bytes
whole_back z t h = ap (twos 64) (number-bytes_of 8 (pattern_of 64 (Some z)) t (pattern-low z h)) ∙ twos-pattern z h

module _ (s : List ℕ) (b : (i : ℕ) → get_or s i 0 < 256) where
  -- law: the bytes of the whole number of 8 bytes
  pub bytes_back : 8 ≤ length s → whole_bytes (whole s) ≡ take 8 s
  unfolding whole whole_bytes
  bytes_back h = ap (bytes_of 8) (pattern-twos (number 8 s) (number_lt s b 8)) ∙ bytes_of-number s b 8 h

  pub whole-held : mag (whole s) < 2 ^ 63
  unfolding whole
  whole-held = twos-held (number 8 s) (number_lt s b 8)

-- ---- at a place that has the bytes

pub number-within : (s : List ℕ) (a k : ℕ) → k ≤ 8 → a + k ≤ length s → number_at s a k ≡ number k (drop a s)
unfolding number_at
number-within s a k h l = rw (le-leb k 8 h, le-leb (a + k) (length s) l)

pub whole-within : (s : List ℕ) (a : ℕ) → a + 8 ≤ length s → whole_at s a ≡ whole (drop a s)
unfolding whole_at whole
whole-within s a l = ap (twos 64) (number-within s a 8 (omega arith) l)

pub put-within : (s : List ℕ) (a : ℕ) (b : List ℕ) → a + length b ≤ length s → put_bytes s a b ≡ take a s ++ (b ++ drop (a + length b) s)
unfolding put_bytes
put-within s a b l = rw (le-leb (a + length b) (length s) l)
