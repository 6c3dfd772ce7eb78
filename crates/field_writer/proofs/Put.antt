-- What a program does to write a field a byte's share at a time.
-- Assumes nothing.
use mathlib.Core.Path.{◌≡◌, sym, ap, ◌∙◌}
use mathlib.Core.List.{List}
use Prim.Native.Nat.{ℕ, zero, suc, ◌+◌, ◌-◌, ◌*◌, ◌/◌, ◌%◌, ◌^◌, ◌≤◌, ◌<◌}
use native.Mathlib.Nat.{mod-lt, mul_assoc, pow-suc, add-suc, add-zero, zero-add, add_assoc, mul-le-mul_left}
use native.Mathlib.Numerals.{add-one}
use native.Mathlib.Omega.{arith}
use lib.ListN.{length, get_or, set}
use lib.Seq.{get_or-set_same, set-set, set-get_or}
use lib.Pow.{pow_pos, shr-shr, mod-mod-pow}
use lib.Pow as Pow
use Rattle.field.specs.Field.{put_bits, set_bit, set_field}
use Rattle.field.proofs.Bit.{put_low, put-shr, put_byte_lem, length-set_field}

-- the parts of a byte, as a program adds them up
pub put-parts : (b j m x : ℕ) → b < 256 → x < 2 ^ m → m + j ≤ 8
    → (b / 2 ^ (m + j) * 2 ^ m + x ≤ (b / 2 ^ (m + j) * 2 ^ m + x) * 2 ^ j) × ((b / 2 ^ (m + j) * 2 ^ m + x) * 2 ^ j + b % 2 ^ j < 256)
unfolding put_bits
put-parts b j m x h l n = (omega (arith, mul-le-mul_left (b / 2 ^ (m + j) * 2 ^ m + x) (pow_pos j)), put_byte_lem b j m x h l n)

-- what is put one bit at a time
put-put : (b j m x : ℕ) → put_bits (put_bits b (suc j) m (x / 2)) j 1 (x % 2) ≡ put_bits b j (suc m) x
put-put b j m x =
    unfold put_bits in
    ap (λ (y : ℕ). (y * 2 + x % 2) * 2 ^ j + B % 2 ^ j) hi
    ∙ ap (λ (y : ℕ). ((H * 2 ^ m + x / 2) * 2 + x % 2) * 2 ^ j + y) lo
    ∙ ap (λ (y : ℕ). y * 2 ^ j + b % 2 ^ j) join
  where
    B : ℕ
    B = put_bits b (suc j) m (x / 2)

    H : ℕ
    H = b / 2 ^ (m + suc j)

    one-plus : 1 + j ≡ suc j
    one-plus = omega arith

    hi : B / 2 ^ (1 + j) ≡ H * 2 ^ m + x / 2
    hi = rw one-plus (put-shr b (suc j) m (x / 2))

    lo : B % 2 ^ j ≡ b % 2 ^ j
    lo =
        sym (mod-mod-pow B 1 j) ∙ ap (λ (y : ℕ). B % 2 ^ y % 2 ^ j) one-plus ∙ ap (λ (y : ℕ). y % 2 ^ j) (put_low b (suc j) m (x / 2))
        ∙ ap (λ (y : ℕ). b % 2 ^ y % 2 ^ j) (sym one-plus) ∙ mod-mod-pow b 1 j

    same : m + suc j ≡ suc m + j
    same = omega arith

    join : (H * 2 ^ m + x / 2) * 2 + x % 2 ≡ b / 2 ^ (suc m + j) * 2 ^ suc m + x
    join =
        let e : H * 2 ^ suc m ≡ H * 2 ^ m * 2 = ap (λ (y : ℕ). H * y) (pow-suc 2 m) ∙ sym (mul_assoc H (2 ^ m) 2) in
        rw (← same) (omega arith)

-- what is put in two parts
set_field-add : (s : List ℕ) (p k m v : ℕ) → set_field s p (k + m) v ≡ set_field (set_field s p k (v / 2 ^ m)) (p + k) m (v % 2 ^ m)
unfolding set_field
set_field-add s p k zero v = rw (add-zero k) (ap (λ (x : ℕ). set_field s p k x) (omega arith))
set_field-add s p k (suc m) v =
    rw (add-suc, set_field-add s p k m (v / 2), ← add_assoc p k m)
    (ap (λ (x : ℕ). set_bit (set_field (set_field s p k x) (p + k) m (v / 2 % 2 ^ m)) (p + k + m) (v % 2)) top
    ∙ ap (λ (x : ℕ). set_bit (set_field (set_field s p k (v / 2 ^ suc m)) (p + k) m x) (p + k + m) (v % 2)) mid
    ∙ ap (λ (x : ℕ). set_bit (set_field (set_field s p k (v / 2 ^ suc m)) (p + k) m (v % 2 ^ suc m / 2)) (p + k + m) x) bottom)
  where
    top : v / 2 / 2 ^ m ≡ v / 2 ^ suc m
    top = shr-shr v 1 m ∙ ap (λ (x : ℕ). v / 2 ^ x) (omega arith)

    mid : v / 2 % 2 ^ m ≡ v % 2 ^ suc m / 2
    mid = sym (Pow.field v m 1) ∙ ap (λ (x : ℕ). v % 2 ^ x / 2) (add-one m)

    bottom : v % 2 ≡ v % 2 ^ suc m % 2
    bottom = sym (mod-mod-pow v m 1) ∙ ap (λ (x : ℕ). v % 2 ^ x % 2) (add-one m)

-- nothing put is nothing changed
put-zero : (b j : ℕ) → put_bits b j 0 0 ≡ b
put-zero b j =
    unfold put_bits in
    ap (λ (x : ℕ). (b / 2 ^ x * 1 + 0) * 2 ^ j + b % 2 ^ j) (zero-add j)
    ∙ ap (λ (x : ℕ). x * 2 ^ j + b % 2 ^ j) (omega arith)
    ∙ Pow.split b j

-- within one byte
set_field-in : (s : List ℕ) (p m j v : ℕ) → p % 8 + m + j ≡ 8 → v < 2 ^ m → p / 8 < length s → set_field s p m v ≡ set s (p / 8) (put_bits (get_or s (p / 8) 0) j m v)
unfolding set_field
set_field-in s p zero j v h l n =
    let z : v ≡ 0 = omega arith in
    rw (z, put-zero) (sym (set-get_or s (p / 8) 0))
set_field-in s p (suc m) j v h l n =
    ap (λ (x : List ℕ). set_bit x (p + m) (v % 2)) (set_field-in s p m (suc j) (v / 2) (omega arith) half n)
    ∙ step
  where
    half : v / 2 < 2 ^ m
    half = let e : 2 ^ suc m ≡ 2 ^ m * 2 = pow-suc 2 m in omega arith

    q : (p + m) / 8 ≡ p / 8
    q = omega arith

    r : 7 - (p + m) % 8 ≡ j
    r = omega arith

    B : ℕ
    B = put_bits (get_or s (p / 8) 0) (suc j) m (v / 2)

    step : set_bit (set s (p / 8) B) (p + m) (v % 2) ≡ set s (p / 8) (put_bits (get_or s (p / 8) 0) j (suc m) v)
    step = unfold set_bit in rw (q, r, get_or-set_same s (p / 8) B 0 n, set-set) (ap (λ (x : ℕ). set s (p / 8) x) (put-put (get_or s (p / 8) 0) j m v))

-- one round of a writer: the m bits that one byte takes at bit p + k
pub set_field-step : (s t : List ℕ) (p w v k m : ℕ) → t ≡ set_field s p k (v / 2 ^ (w - k)) → k + m ≤ w → m ≤ 8 - (p + k) % 8 → p + w ≤ 8 * length s → 0 < m
    → set t ((p + k) / 8) (put_bits (get_or t ((p + k) / 8) 0) (8 - (p + k) % 8 - m) m (v / 2 ^ (w - k - m) % 2 ^ m)) ≡ set_field s p (k + m) (v / 2 ^ (w - (k + m)))
set_field-step s t p w v k m e h l n z =
    sym (set_field-in t (p + k) m (8 - (p + k) % 8 - m) (Y % 2 ^ m) (omega arith) (mod-lt Y (pow_pos m)) contains)
    ∙ ap (λ (x : List ℕ). set_field x (p + k) m (Y % 2 ^ m)) e
    ∙ ap (λ (x : ℕ). set_field (set_field s p k x) (p + k) m (Y % 2 ^ m)) (sym up)
    ∙ sym (set_field-add s p k m Y)
    ∙ ap (λ (x : ℕ). set_field s p (k + m) (v / 2 ^ x)) rest
  where
    Y : ℕ
    Y = v / 2 ^ (w - k - m)

    up : Y / 2 ^ m ≡ v / 2 ^ (w - k)
    up = shr-shr v (w - k - m) m ∙ ap (λ (x : ℕ). v / 2 ^ x) (omega arith)

    rest : w - k - m ≡ w - (k + m)
    rest = omega arith

    contains : (p + k) / 8 < length t
    contains = let y : length t ≡ length s = ap length e ∙ length-set_field s p k (v / 2 ^ (w - k)) in omega arith
