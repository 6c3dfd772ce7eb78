-- The division of 8 or 32 bits by parts of four bits, and the remainder so far as an input.
-- Assumes nothing.
use Prim.Native.Nat.{ℕ, zero, suc, ◌+◌, ◌*◌, ◌/◌, ◌%◌, ◌^◌, ◌<◌, ◌≤◌}
use mathlib.Core.Bool.{Bool, true}
use mathlib.Core.Path.{◌≡◌, refl, sym, ap, ap₂, subst, ◌∙◌}
use mathlib.Core.List.{List, [], ◌∷◌}
use native.Mathlib.Nat.{mod-lt, zero-add, suc-add, add_comm, add_assoc, add-mul, mul_comm, mul_assoc, mul-one, pow-suc}
use native.Mathlib.Omega.{arith}
use lib.Pow.{pow_pos, pow_mono, shl_lt, shr_lt, shr-shr, split}
use lib.Pow as pow
use mir.Syntax.{w32}
use Rattle.std.specs.Int.{from_be_bytes}
use lib.Dec.{eqb}
use lib.Bits.{bit_xor, xor_comm, xor_lt, xor_shifted, xor_zero_r}
use lib.ListN.{length, get_or}
use borrow.Author.Tests.{eqb-true}
use Rattle.arith.specs.Lists.{all_below}
use Rattle.arith.proofs.Lists.{get_d-up_to}
use Rattle.arith.proofs.Tests.{all-at}
use Rattle.frame_crc.specs.Crc.{reduced, crc_bit, crc_bits, crc_byte, crc_from}
use Rattle.frame_crc.specs.Private.{part, parts}
use Rattle.frame_crc.proofs.Linear.{bits-xor, shifted, low}

-- ---- two sums agree where they agree on each four bits

module _ (f g : ℕ → ℕ) where
  pub agrees : ℕ → Bool
  agrees j = eqb (f (j % 16 * 2 ^ (4 * (j / 16)))) (g (j % 16 * 2 ^ (4 * (j / 16))))

  agree_at_lem : (n k d : ℕ) → all_below agrees (n * 16) ≡ true → k < n → d < 16 → f (d * 2 ^ (4 * k)) ≡ g (d * 2 ^ (4 * k))
  unfolding agrees
  agree_at_lem n k d t h l =
      let j : ℕ = k * 16 + d in
      let x : j % 16 ≡ d = omega arith in
      let y : j / 16 ≡ k = omega arith in
      rw (x, y) at (eqb-true (f (j % 16 * 2 ^ (4 * (j / 16)))) (g (j % 16 * 2 ^ (4 * (j / 16)))) (all-at agrees (n * 16) t j (omega arith)))

  module _ (m : ℕ) (none : f 0 ≡ g 0)
      (sum-f : (a b : ℕ) → a < 2 ^ m → b < 2 ^ m → f (bit_xor a b) ≡ bit_xor (f a) (f b))
      (sum-g : (a b : ℕ) → a < 2 ^ m → b < 2 ^ m → g (bit_xor a b) ≡ bit_xor (g a) (g b)) where
    agree-up : (n : ℕ) → 4 * n ≤ m → ((k d : ℕ) → k < n → d < 16 → f (d * 2 ^ (4 * k)) ≡ g (d * 2 ^ (4 * k))) → (w : ℕ) → w < 2 ^ (4 * n) → f w ≡ g w
    agree-up zero l t w h = let z : w ≡ 0 = omega arith in rw z none
    agree-up (suc n) l t w h =
        let e : 4 * suc n ≡ 4 + 4 * n = omega arith in
        let b : w < 2 ^ (4 + 4 * n) = subst (λ (x : ℕ). w < 2 ^ x) e h in
        let q : ℕ = w / 2 ^ (4 * n) in
        let r : ℕ = w % 2 ^ (4 * n) in
        let qs : q < 16 = shr_lt 4 (4 * n) b in
        let rs : r < 2 ^ (4 * n) = mod-lt w (pow_pos (4 * n)) in
        let u : q * 2 ^ (4 * n) < 2 ^ (4 + 4 * n) = shl_lt 4 (4 * n) qs in
        let x : 2 ^ (4 + 4 * n) ≤ 2 ^ m = pow_mono (omega arith) in
        let y : 2 ^ (4 * n) ≤ 2 ^ m = pow_mono (omega arith) in
        let s : w ≡ bit_xor (q * 2 ^ (4 * n)) r = sym (xor_shifted q (4 * n) r rs ∙ split w (4 * n)) in
        ap f s
        ∙ sum-f (q * 2 ^ (4 * n)) r (omega arith) (omega arith)
        ∙ ap₂ bit_xor (t n q (omega arith) qs) (agree-up n (omega arith) (λ k d a c. t k d (omega arith) c) r rs)
        ∙ sym (sum-g (q * 2 ^ (4 * n)) r (omega arith) (omega arith))
        ∙ sym (ap g s)

    -- where antt computes all of them
    pub agree : (n : ℕ) → 4 * n ≤ m → all_below agrees (n * 16) ≡ true → (w : ℕ) → w < 2 ^ (4 * n) → f w ≡ g w
    agree n l t w h = agree-up n l (λ k d a c. agree_at_lem n k d t a c) w h

-- ---- the remainder so far as an input

-- what the high 8 bits of a remainder do in 8 steps
by_high : ℕ → ℕ
by_high a = crc_byte (a * 2 ^ 16) 0

by_byte : ℕ → ℕ
by_byte a = crc_byte 0 a

high : (a : ℕ) → a < 256 → crc_byte (a * 65536) 0 ≡ crc_byte 0 a
unfolding by_high by_byte agrees crc_bits crc_bit reduced
high a h =
    agree by_high by_byte 8 refl
    (λ x y p q. ap (λ (z : ℕ). crc_byte z 0) (sym (shifted 16 x y)) ∙ bits-xor 8 (x * 2 ^ 16) (y * 2 ^ 16) 0 0 (omega arith) (omega arith))
    (λ x y p q. bits-xor 8 0 0 x y (omega arith) (omega arith))
    2 (omega arith) refl a h

-- what a remainder does in 32 steps
by-remainder : ℕ → ℕ
by-remainder c = crc_bits 32 c 0

by-input : ℕ → ℕ
by-input c = crc_bits 32 0 (c * 2 ^ 8)

taken_in : (c : ℕ) → c < 2 ^ 24 → crc_bits 32 c 0 ≡ crc_bits 32 0 (c * 256)
unfolding by-remainder by-input agrees crc_bits crc_bit reduced
taken_in c h =
    agree by-remainder by-input 24 refl
    (λ x y p q. bits-xor 32 x y 0 0 p q)
    (λ x y p q. ap (crc_bits 32 0) (sym (shifted 8 x y)) ∙ bits-xor 32 0 0 (x * 2 ^ 8) (y * 2 ^ 8) (omega arith) (omega arith))
    6 (omega arith) refl c h

pub word-input : (c w : ℕ) → c < 2 ^ 24 → crc_bits 32 c w ≡ crc_bits 32 0 (bit_xor (c * 256) w)
word-input c w h =
    ap₂ (crc_bits 32) (sym (xor_zero_r c)) refl
    ∙ bits-xor 32 c 0 0 w h (omega arith)
    ∙ ap (λ (x : ℕ). bit_xor x (crc_bits 32 0 w)) (taken_in c h)
    ∙ sym (bits-xor 32 0 0 (c * 256) w (omega arith) (omega arith))

upper : (a x : ℕ) → a < 256 → crc_byte (a * 65536) x ≡ crc_byte 0 (bit_xor a x)
upper a x h =
    ap (λ (y : ℕ). crc_byte y x) (sym (xor_zero_r (a * 65536)))
    ∙ bits-xor 8 (a * 65536) 0 0 x (omega arith) (omega arith)
    ∙ ap (λ (y : ℕ). bit_xor y (crc_byte 0 x)) (high a h)
    ∙ sym (bits-xor 8 0 0 a x (omega arith) (omega arith))

-- one byte more, by the remainder of the high bits and the byte
byte-input : (c x : ℕ) → c < 2 ^ 24 → x < 256 → crc_byte c x ≡ bit_xor (c % 65536 * 256) (crc_byte 0 (bit_xor (c / 65536) x))
byte-input c x h k =
    let a : ℕ = c / 65536 in
    let b : ℕ = c % 65536 in
    let e : c ≡ bit_xor (a * 65536) b = sym (xor_shifted a 16 b (omega arith) ∙ omega arith) in
    ap₂ (λ (y z : ℕ). crc_byte y z) e (sym (xor_zero_r x))
    ∙ bits-xor 8 (a * 65536) b x 0 (omega arith) (omega arith)
    ∙ ap₂ bit_xor (upper a x (omega arith)) (low b (omega arith))
    ∙ xor_comm (crc_byte 0 (bit_xor a x)) (b * 256)

-- ---- 32 bits as four bytes

first-bits : (m n c x : ℕ) → crc_bits (m + n) c x ≡ crc_bits n (crc_bits m c (x / 2 ^ n)) x
unfolding crc_bits
first-bits zero n c x = ap (λ (k : ℕ). crc_bits k c x) (zero-add n)
first-bits (suc m) n c x =
    ap (λ (k : ℕ). crc_bits k c x) (suc-add m n)
    ∙ first-bits m n (crc_bit c (x / 2 ^ (m + n) % 2)) x
    ∙ ap (λ (y : ℕ). crc_bits n (crc_bits m (crc_bit c (y % 2)) (x / 2 ^ n)) x) (sym (shr-shr x n m ∙ ap (λ (k : ℕ). x / 2 ^ k) (add_comm n m)))

last_bit : (n y x : ℕ) → (y * 2 * 2 ^ n + x) / 2 ^ n % 2 ≡ x / 2 ^ n % 2
last_bit n y x =
    let e : y * 2 * 2 ^ n + x ≡ (y * 2 + x / 2 ^ n) * 2 ^ n + x % 2 ^ n =
    ap (λ (z : ℕ). y * 2 * 2 ^ n + z) (sym (split x n)) ∙ sym (add_assoc (y * 2 * 2 ^ n) (x / 2 ^ n * 2 ^ n) (x % 2 ^ n))
    ∙ ap (λ (z : ℕ). z + x % 2 ^ n) (sym (add-mul (y * 2) (x / 2 ^ n) (2 ^ n))) in
    ap (λ (z : ℕ). z / 2 ^ n % 2) e ∙ ap (λ (z : ℕ). z % 2) (pow.high (y * 2 + x / 2 ^ n) n (mod-lt x (pow_pos n))) ∙ omega arith

last-bits : (n c y x : ℕ) → crc_bits n c (y * 2 ^ n + x) ≡ crc_bits n c x
unfolding crc_bits
last-bits zero c y x = refl
last-bits (suc n) c y x =
    let e : y * 2 ^ suc n ≡ y * 2 * 2 ^ n = ap (λ (z : ℕ). y * z) (pow-suc 2 n ∙ mul_comm (2 ^ n) 2) ∙ sym (mul_assoc y 2 (2 ^ n)) in
    ap (λ (z : ℕ). crc_bits n (crc_bit c ((z + x) / 2 ^ n % 2)) (z + x)) e
    ∙ ap (λ (z : ℕ). crc_bits n (crc_bit c z) (y * 2 * 2 ^ n + x)) (last_bit n y x)
    ∙ last-bits n (crc_bit c (x / 2 ^ n % 2)) (y * 2) x

-- a number of bytes: the last of them, and those before it
byte_more : (n c w x : ℕ) → x < 256 → crc_bits (n + 8) c (w * 256 + x) ≡ crc_byte (crc_bits n c w) x
byte_more n c w x h =
    let e : (w * 256 + x) / 256 ≡ w = omega arith in
    first-bits n 8 c (w * 256 + x)
    ∙ ap (λ (y : ℕ). crc_bits 8 (crc_bits n c y) (w * 256 + x)) e
    ∙ last-bits 8 (crc_bits n c w) w x

pub four : (c : ℕ) (s : List ℕ) → length s ≡ 4 → ((i : ℕ) → get_or s i 0 < 256) → crc_bits 32 c (from_be_bytes w32 s) ≡ crc_from c s
unfolding crc_from
four c (x ∷ y ∷ z ∷ v ∷ []) l h =
    let p : y < 256 = h 1 in
    let q : z < 256 = h 2 in
    let r : v < 256 = h 3 in
    let e : from_be_bytes w32 (x ∷ y ∷ z ∷ v ∷ []) ≡ ((x * 256 + y) * 256 + z) * 256 + v = omega arith in
    ap (crc_bits 32 c) e
    ∙ byte_more 24 c ((x * 256 + y) * 256 + z) v r
    ∙ ap (λ (k : ℕ). crc_byte k v) (byte_more 16 c (x * 256 + y) z q ∙ ap (λ (k : ℕ). crc_byte k z) (byte_more 8 c x y p))
four c _ l h = absurd (omega arith)

-- a byte behind zero bits
one : (x : ℕ) → x < 256 → crc_bits 32 0 x ≡ crc_byte 0 x
unfolding crc_bits crc_bit reduced
one x h =
    let e : x / 256 ≡ 0 = omega arith in
    first-bits 24 8 0 x ∙ ap (λ (k : ℕ). crc_bits 8 (crc_bits 24 0 k) x) e

-- ---- 32 bits as eight parts

cut : (k w high low : ℕ) → low < 2 ^ k → w ≡ high * 2 ^ k + low → crc_bits 32 0 w ≡ bit_xor (crc_bits 32 0 (high * 2 ^ k)) (crc_bits 32 0 low)
cut k w high low h e =
    ap (crc_bits 32 0) (e ∙ sym (xor_shifted high k low h))
    ∙ bits-xor 32 0 0 (high * 2 ^ k) low (omega arith) (omega arith)

entry : (j k d : ℕ) → k < 8 → d < 16 → j ≡ k * 16 + d → get_or parts j 0 ≡ crc_bits 32 0 (d * 2 ^ (4 * k))
unfolding part parts
entry j k d h l e =
    let x : j % 16 ≡ d = omega arith in
    let y : j / 16 ≡ k = omega arith in
    get_d-up_to part 128 j 0 (omega arith) ∙ ap₂ (λ (a b : ℕ). crc_bits 32 0 (a * 2 ^ (4 * b))) x y

lowest : (d : ℕ) → d < 16 → get_or parts d 0 ≡ crc_bits 32 0 d
lowest d h = entry d 0 d (omega arith) h (omega arith) ∙ ap (crc_bits 32 0) (mul-one d)

-- what the table gives for 32 bits
abbrev pub summed : ℕ → List ℕ → ℕ
summed w t =
    bit_xor (bit_xor (bit_xor (bit_xor (bit_xor (bit_xor (bit_xor
    (get_or t (112 + w / 268435456) 0)
    (get_or t (96 + w / 16777216 % 16) 0))
    (get_or t (80 + w / 1048576 % 16) 0))
    (get_or t (64 + w / 65536 % 16) 0))
    (get_or t (48 + w / 4096 % 16) 0))
    (get_or t (32 + w / 256 % 16) 0))
    (get_or t (16 + w / 16 % 16) 0))
    (get_or t (w % 16) 0)

pub word : (w : ℕ) → w < 2 ^ 32 → summed w parts ≡ crc_bits 32 0 w
word w h = sym
    (cut 4 w (w / 16) (w % 16) (omega arith) (omega arith)
    ∙ ap₂ bit_xor (cut 8 (w / 16 * 16) (w / 256) (w / 16 % 16 * 16) (omega arith) (omega arith)
    ∙ ap₂ bit_xor (cut 12 (w / 256 * 256) (w / 4096) (w / 256 % 16 * 256) (omega arith) (omega arith)
    ∙ ap₂ bit_xor (cut 16 (w / 4096 * 4096) (w / 65536) (w / 4096 % 16 * 4096) (omega arith) (omega arith)
    ∙ ap₂ bit_xor (cut 20 (w / 65536 * 65536) (w / 1048576) (w / 65536 % 16 * 65536) (omega arith) (omega arith)
    ∙ ap₂ bit_xor (cut 24 (w / 1048576 * 1048576) (w / 16777216) (w / 1048576 % 16 * 1048576) (omega arith) (omega arith)
    ∙ ap₂ bit_xor (cut 28 (w / 16777216 * 16777216) (w / 268435456) (w / 16777216 % 16 * 16777216) (omega arith) (omega arith)
    ∙ ap₂ bit_xor (sym (entry (112 + w / 268435456) 7 (w / 268435456) (omega arith) (omega arith) (omega arith)))
    (sym (entry (96 + w / 16777216 % 16) 6 (w / 16777216 % 16) (omega arith) (omega arith) (omega arith))))
    (sym (entry (80 + w / 1048576 % 16) 5 (w / 1048576 % 16) (omega arith) (omega arith) (omega arith))))
    (sym (entry (64 + w / 65536 % 16) 4 (w / 65536 % 16) (omega arith) (omega arith) (omega arith))))
    (sym (entry (48 + w / 4096 % 16) 3 (w / 4096 % 16) (omega arith) (omega arith) (omega arith))))
    (sym (entry (32 + w / 256 % 16) 2 (w / 256 % 16) (omega arith) (omega arith) (omega arith))))
    (sym (entry (16 + w / 16 % 16) 1 (w / 16 % 16) (omega arith) (omega arith) (omega arith))))
    (sym (lowest (w % 16) (omega arith))))

-- what the table gives for a byte
pub byte_word : (y : ℕ) → y < 256 → bit_xor (get_or parts (16 + y / 16) 0) (get_or parts (y % 16) 0) ≡ crc_byte 0 y
byte_word y h = sym
    (sym (one y h)
    ∙ cut 4 y (y / 16) (y % 16) (omega arith) (omega arith)
    ∙ ap₂ bit_xor (sym (entry (16 + y / 16) 1 (y / 16) (omega arith) (omega arith) (omega arith)))
    (sym (lowest (y % 16) (omega arith))))

pub byte_small : (c x : ℕ) → c < 2 ^ 24 → x < 256 → bit_xor (c / 65536) x < 256
byte_small c x h k = xor_lt 8 (c / 65536) x (omega arith) k

pub byte : (c x : ℕ) → c < 2 ^ 24 → x < 256
    → bit_xor (c % 65536 * 256) (bit_xor (get_or parts (16 + bit_xor (c / 65536) x / 16) 0) (get_or parts (bit_xor (c / 65536) x % 16) 0)) ≡ crc_byte c x
byte c x h k =
    ap (bit_xor (c % 65536 * 256)) (byte_word (bit_xor (c / 65536) x) (byte_small c x h k)) ∙ sym (byte-input c x h k)
