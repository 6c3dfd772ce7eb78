-- CRC-24Q: the remainder of a polynomial division, taken bit by bit.
-- Assumes nothing.
use Rattle.std.specs.Prelude.{ℕ, zero, suc, ◌*◌, ◌/◌, ◌%◌, ◌^◌, cond, List, [], ◌∷◌, ltb}
use Rattle.std.specs.Int.Bits.{bit_xor}

-- the polynomial, a bit for each coefficient from that of x^24 down
abbrev pub polynomial : ℕ
polynomial = 0x1864CFB

-- what the division leaves of a number of 25 bits
unfoldable pub reduced : ℕ → ℕ
reduced d = cond (ltb d (2 ^ 24)) d (bit_xor d polynomial)

-- the remainder c after one more bit
unfoldable pub crc_bit : ℕ → ℕ → ℕ
crc_bit c bit = reduced (bit_xor (c * 2) (bit * 2 ^ 24))

-- after the n low bits of x, the most significant first
unfoldable pub crc_bits : ℕ → ℕ → ℕ → ℕ
crc_bits zero c x = c
crc_bits (suc n) c x = crc_bits n (crc_bit c (x / 2 ^ n % 2)) x

abbrev pub crc_byte : ℕ → ℕ → ℕ
crc_byte c x = crc_bits 8 c x

-- after the bytes of s
unfoldable pub crc_from : ℕ → List ℕ → ℕ
crc_from c [] = c
crc_from c (x ∷ s) = crc_from (crc_byte c x) s

-- the division starts at 0
unfoldable pub crc : List ℕ → ℕ
crc s = crc_from 0 s
