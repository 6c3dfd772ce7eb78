-- Bits and fields of a list of bytes, most significant bit first (document 01, "Message layouts").
-- Assumes nothing.
use Rattle.std.specs.Prelude.{ℕ, zero, suc, ◌+◌, ◌-◌, ◌*◌, ◌/◌, ◌%◌, ◌^◌, List, cond, ltb, eqb, get_or, set, ℤ, pos, negsuc, Option, Some, None}

-- ---- numbers in bits

-- bit k of s: bit 0 is the most significant of the first byte
unfoldable pub bit_at : List ℕ → ℕ → ℕ
bit_at s k = get_or s (k / 8) 0 / 2 ^ (7 - k % 8) % 2

-- the number in the w bits from bit p on
unfoldable pub field : List ℕ → ℕ → ℕ → ℕ
field s p zero = 0
field s p (suc w) = field s p w * 2 + bit_at s (p + w)

-- b with x in the m bits that have j bits below them
unfoldable pub put_bits : ℕ → ℕ → ℕ → ℕ → ℕ
put_bits b j m x = (b / 2 ^ (m + j) * 2 ^ m + x) * 2 ^ j + b % 2 ^ j

-- s with x for bit k
unfoldable pub set_bit : List ℕ → ℕ → ℕ → List ℕ
set_bit s k x = set s (k / 8) (put_bits (get_or s (k / 8) 0) (7 - k % 8) 1 x)

-- s with the number v in the w bits from bit p on
unfoldable pub set_field : List ℕ → ℕ → ℕ → ℕ → List ℕ
set_field s p zero v = s
set_field s p (suc w) v = set_bit (set_field s p w (v / 2)) (p + w) (v % 2)

-- ---- intN: two's complement, whose most negative pattern means "not available" (000, table 3.3-1)

-- the most negative pattern of w bits
abbrev pub none_of : ℕ → ℕ
none_of w = 2 ^ w / 2

-- the pattern u of w bits, read as two's complement: u, or u - 2^w where its first bit is set
unfoldable pub twos : ℕ → ℕ → ℤ
twos w u = cond (ltb (u * 2) (2 ^ w)) (pos u) (negsuc (2 ^ w - suc u))

-- what the pattern u of w bits says
unfoldable pub signed_of : ℕ → ℕ → Option ℤ
signed_of w u = cond (eqb u (none_of w)) None (Some (twos w u))

-- the pattern of w bits: z itself, z + 2^w where z is negative, or the most negative one
abbrev pub pattern_of : ℕ → Option ℤ → ℕ
pattern_of w (Some (pos n)) = n
pattern_of w (Some (negsuc n)) = 2 ^ w - suc n
pattern_of w None = none_of w
