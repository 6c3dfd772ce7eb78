-- The remainder of a sum of two dividends is the sum of their remainders, where a sum has no carries.
-- Assumes nothing.
use Prim.Native.Nat.{ℕ, zero, suc, ◌+◌, ◌*◌, ◌/◌, ◌%◌, ◌^◌, ◌<◌, ◌≤◌}
use mathlib.Core.Path.{◌≡◌, refl, sym, ap, ap₂, ◌∙◌}
use native.Mathlib.Nat.{mod-lt, add-zero}
use native.Mathlib.Omega.{arith}
use native.Mathlib.Decide.{dec_lt}
use lib.Arith.{bin_ind}
use lib.Pow.{pow_pos}
use lib.Bits.{bit_xor, differ, xor_step, xor_comm, xor_lt, xor_shr, xor_mod, xor_block, xor_zero_r}
use mathlib.Core.List.{List, [], ◌∷◌, ◌++◌}
use native.Mathlib.Numerals.{add-one}
use lib.ListN.{length, get_or, take, drop, drop_of_length-le, take-append-drop}
use lib.Seq.{drop-cons, drop-drop}
use Rattle.std.specs.Simd.{first_chunks}
use borrow.Author.Tests.{lt-ltb, le-ltb}
use Rattle.frame_crc.specs.Crc.{polynomial, reduced, crc_bit, crc_bits, crc_byte, crc_from, crc}

-- ---- sums without carries

differ-assoc : (a b c : ℕ) → a < 2 → b < 2 → c < 2 → differ (differ a b) c ≡ differ a (differ b c)
differ-assoc zero b c x y z = refl
differ-assoc (suc zero) zero c x y z = refl
differ-assoc (suc zero) (suc zero) zero x y z = refl
differ-assoc (suc zero) (suc zero) (suc zero) x y z = refl
differ-assoc (suc zero) (suc zero) (suc (suc c)) x y z = absurd (omega arith)
differ-assoc (suc zero) (suc (suc b)) c x y z = absurd (omega arith)
differ-assoc (suc (suc a)) b c x y z = absurd (omega arith)

halve : (a b : ℕ) → bit_xor a b / 2 ≡ bit_xor (a / 2) (b / 2)
halve a b = xor_shr a b 1

digit : (a b : ℕ) → a < 2 → b < 2 → bit_xor a b ≡ differ a b
digit zero b x y = refl
digit (suc zero) zero x y = refl
digit (suc zero) (suc zero) x y = refl
digit (suc zero) (suc (suc b)) x y = absurd (omega arith)
digit (suc (suc a)) b x y = absurd (omega arith)

odd : (a b : ℕ) → bit_xor a b % 2 ≡ differ (a % 2) (b % 2)
odd a b = xor_mod a b 1 ∙ digit (a % 2) (b % 2) (omega arith) (omega arith)

pub assoc : (a b c : ℕ) → bit_xor (bit_xor a b) c ≡ bit_xor a (bit_xor b c)
assoc =
    bin_ind (λ (a : ℕ). (b c : ℕ) → bit_xor (bit_xor a b) c ≡ bit_xor a (bit_xor b c)) (λ b c. refl)
    (λ a ih b c. xor_step (bit_xor a b) c
    ∙ ap₂ (λ (p q : ℕ). bit_xor p (c / 2) * 2 + differ q (c % 2)) (halve a b) (odd a b)
    ∙ ap₂ (λ (p q : ℕ). p * 2 + q) (ih (b / 2) (c / 2)) (differ-assoc (a % 2) (b % 2) (c % 2) (omega arith) (omega arith) (omega arith))
    ∙ sym (ap₂ (λ (p q : ℕ). bit_xor (a / 2) p * 2 + differ (a % 2) q) (halve b c) (odd b c))
    ∙ sym (xor_step a (bit_xor b c)))

four : (a b c d : ℕ) → bit_xor (bit_xor a b) (bit_xor c d) ≡ bit_xor (bit_xor a c) (bit_xor b d)
four a b c d =
    assoc a b (bit_xor c d)
    ∙ ap (bit_xor a) (sym (assoc b c d) ∙ ap (λ (x : ℕ). bit_xor x d) (xor_comm b c) ∙ assoc c b d)
    ∙ sym (assoc a c (bit_xor b d))

pub shifted : (k a b : ℕ) → bit_xor (a * 2 ^ k) (b * 2 ^ k) ≡ bit_xor a b * 2 ^ k
shifted k a b =
    ap₂ bit_xor (sym (add-zero (a * 2 ^ k))) (sym (add-zero (b * 2 ^ k)))
    ∙ xor_block k a b 0 0 (pow_pos k) (pow_pos k)
    ∙ add-zero (bit_xor a b * 2 ^ k)

-- ---- one step of the division

-- bit 24 of a sum
top : (d e : ℕ) → bit_xor d e / 2 ^ 24 ≡ bit_xor (d / 2 ^ 24) (e / 2 ^ 24)
top d e = xor_shr d e 24

top-is : (d e p q : ℕ) → d / 2 ^ 24 ≡ p → e / 2 ^ 24 ≡ q → bit_xor d e / 2 ^ 24 ≡ bit_xor p q
top-is d e p q x y = top d e ∙ ap₂ bit_xor x y

keeps : (d : ℕ) → d < 2 ^ 24 → reduced d ≡ d
unfolding reduced
keeps d h = rw (lt-ltb d (2 ^ 24) h)

takes : (d : ℕ) → 2 ^ 24 ≤ d → reduced d ≡ bit_xor d polynomial
unfolding reduced
takes d h = rw (le-ltb d (2 ^ 24) h)

pub reduced-lt : (d : ℕ) → d < 2 ^ 25 → reduced d < 2 ^ 24
reduced-lt d h = go (dec_lt d (2 ^ 24))
  where
    go : Dec (d < 2 ^ 24) → reduced d < 2 ^ 24
    go (yes l) = rw (keeps d l) l
    go (no l) =
        let t : bit_xor d polynomial / 2 ^ 24 ≡ 0 = top-is d polynomial 1 1 (omega arith) refl in
        rw (takes d (omega arith)) (omega arith)

one-high : (d e : ℕ) → d < 2 ^ 24 → 2 ^ 24 ≤ e → e < 2 ^ 25 → reduced (bit_xor d e) ≡ bit_xor (reduced d) (reduced e)
one-high d e x y z =
    let t : bit_xor d e / 2 ^ 24 ≡ 1 = top-is d e 0 1 (omega arith) (omega arith) in
    takes (bit_xor d e) (omega arith) ∙ assoc d e polynomial ∙ sym (ap₂ bit_xor (keeps d x) (takes e y))

reduced-xor : (d e : ℕ) → d < 2 ^ 25 → e < 2 ^ 25 → reduced (bit_xor d e) ≡ bit_xor (reduced d) (reduced e)
reduced-xor d e x y = go (dec_lt d (2 ^ 24)) (dec_lt e (2 ^ 24))
  where
    go : Dec (d < 2 ^ 24) → Dec (e < 2 ^ 24) → reduced (bit_xor d e) ≡ bit_xor (reduced d) (reduced e)
    go (yes a) (yes b) = keeps (bit_xor d e) (xor_lt 24 d e a b) ∙ sym (ap₂ bit_xor (keeps d a) (keeps e b))
    go (yes a) (no b) = one-high d e a (omega arith) y
    go (no a) (yes b) = ap reduced (xor_comm d e) ∙ one-high e d b (omega arith) x ∙ xor_comm (reduced e) (reduced d)
    go (no a) (no b) =
        let t : bit_xor d e / 2 ^ 24 ≡ 0 = top-is d e 1 1 (omega arith) (omega arith) in
        keeps (bit_xor d e) (omega arith)
        ∙ sym (ap₂ bit_xor (takes d (omega arith)) (takes e (omega arith))
        ∙ four d polynomial e polynomial
        ∙ xor_zero_r (bit_xor d e))

-- the dividend of one step
fits : (c b : ℕ) → c < 2 ^ 24 → b < 2 → bit_xor (c * 2) (b * 2 ^ 24) < 2 ^ 25
fits c b x y = xor_lt 25 (c * 2) (b * 2 ^ 24) (omega arith) (omega arith)

pub bit-lt : (c b : ℕ) → c < 2 ^ 24 → b < 2 → crc_bit c b < 2 ^ 24
unfolding crc_bit
bit-lt c b x y = reduced-lt (bit_xor (c * 2) (b * 2 ^ 24)) (fits c b x y)

bit-xor : (c e a b : ℕ) → c < 2 ^ 24 → e < 2 ^ 24 → a < 2 → b < 2 → crc_bit (bit_xor c e) (bit_xor a b) ≡ bit_xor (crc_bit c a) (crc_bit e b)
unfolding crc_bit
bit-xor c e a b x y p q =
    ap reduced
    (ap₂ bit_xor (sym (shifted 1 c e)) (sym (shifted 24 a b))
    ∙ four (c * 2) (e * 2) (a * 2 ^ 24) (b * 2 ^ 24))
    ∙ reduced-xor (bit_xor (c * 2) (a * 2 ^ 24)) (bit_xor (e * 2) (b * 2 ^ 24)) (fits c a x p) (fits e b y q)

double : (c : ℕ) → c < 2 ^ 23 → crc_bit c 0 ≡ c * 2
unfolding crc_bit
double c h = ap reduced (xor_zero_r (c * 2)) ∙ keeps (c * 2) (omega arith)

-- ---- a byte

bit_at : (x n : ℕ) → x / 2 ^ n % 2 < 2
bit_at x n = mod-lt (x / 2 ^ n) (omega arith)

pub bits-lt : (n c x : ℕ) → c < 2 ^ 24 → crc_bits n c x < 2 ^ 24
unfolding crc_bits
bits-lt zero c x h = h
bits-lt (suc n) c x h = bits-lt n (crc_bit c (x / 2 ^ n % 2)) x (bit-lt c (x / 2 ^ n % 2) h (bit_at x n))

pub bits-xor : (n c e x y : ℕ) → c < 2 ^ 24 → e < 2 ^ 24 → crc_bits n (bit_xor c e) (bit_xor x y) ≡ bit_xor (crc_bits n c x) (crc_bits n e y)
unfolding crc_bits
bits-xor zero c e x y h k = refl
bits-xor (suc n) c e x y h k =
    ap (λ (z : ℕ). crc_bits n z (bit_xor x y))
    (ap (crc_bit (bit_xor c e)) (ap (λ (z : ℕ). z % 2) (xor_shr x y n) ∙ xor_mod (x / 2 ^ n) (y / 2 ^ n) 1)
    ∙ bit-xor c e (x / 2 ^ n % 2) (y / 2 ^ n % 2) h k (bit_at x n) (bit_at y n))
    ∙ bits-xor n (crc_bit c (x / 2 ^ n % 2)) (crc_bit e (y / 2 ^ n % 2)) x y
    (bit-lt c (x / 2 ^ n % 2) h (bit_at x n)) (bit-lt e (y / 2 ^ n % 2) k (bit_at y n))

-- the low 16 bits move up by a byte
pub low : (c : ℕ) → c < 65536 → crc_byte c 0 ≡ c * 256
unfolding crc_bits
low c h =
    rw (
      double c (omega arith),
      double (c * 2) (omega arith),
      double (c * 2 * 2) (omega arith),
      double (c * 2 * 2 * 2) (omega arith),
      double (c * 2 * 2 * 2 * 2) (omega arith),
      double (c * 2 * 2 * 2 * 2 * 2) (omega arith),
      double (c * 2 * 2 * 2 * 2 * 2 * 2) (omega arith),
      double (c * 2 * 2 * 2 * 2 * 2 * 2 * 2) (omega arith),
    ) (omega arith)

pub byte-lt : (c x : ℕ) → c < 2 ^ 24 → crc_byte c x < 2 ^ 24
byte-lt = bits-lt 8

pub from-lt : (c : ℕ) (s : List ℕ) → c < 2 ^ 24 → crc_from c s < 2 ^ 24
unfolding crc_from
from-lt c [] h = h
from-lt c (x ∷ s) h = from-lt (crc_byte c x) s (byte-lt c x h)

pub crc-lt : (s : List ℕ) → crc s < 2 ^ 24
unfolding crc
crc-lt s = from-lt 0 s (omega arith)

-- a loop's round and its end
pub round : (c : ℕ) (s : List ℕ) (i : ℕ) → i < length s → crc_from (crc_byte c (get_or s i 0)) (drop (i + 1) s) ≡ crc_from c (drop i s)
unfolding crc_from
round c s i h = rw (add-one, drop-cons s i 0)

pub from-append : (c : ℕ) (s r : List ℕ) → crc_from c (s ++ r) ≡ crc_from (crc_from c s) r
unfolding crc_from
from-append c [] r = refl
from-append c (x ∷ s) r = from-append (crc_byte c x) s r

chunk-at : (n k i : ℕ) (s : List ℕ) → i < k → get_or (first_chunks n k s) i [] ≡ take n (drop (i * n) s)
chunk-at n zero i s h = absurd (omega arith)
chunk-at n (suc k) zero s h = let e : 0 * n ≡ 0 = omega arith in rw e
chunk-at n (suc k) (suc i) s h =
    let e : n + i * n ≡ suc i * n = omega arith in
    chunk-at n k i (drop n s) (omega arith) ∙ ap (take n) (drop-drop (i * n) n s ∙ ap (λ (j : ℕ). drop j s) e)

-- the same by chunks of n bytes
pub round-chunk : (c n k i : ℕ) (s : List ℕ) → i < k
    → crc_from (crc_from c (get_or (first_chunks n k s) i [])) (drop ((i + 1) * n) s) ≡ crc_from c (drop (i * n) s)
round-chunk c n k i s h =
    let e : (i + 1) * n ≡ i * n + n = omega arith in
    rw (chunk-at n k i s h, e, ← drop-drop n (i * n) s, ← from-append c (take n (drop (i * n) s)) (drop n (drop (i * n) s)), take-append-drop n (drop (i * n) s))

pub done : (c : ℕ) (s : List ℕ) (i : ℕ) → length s ≤ i → crc_from c (drop i s) ≡ c
unfolding crc_from
done c s i h = rw (drop_of_length-le s {i = i} h)
