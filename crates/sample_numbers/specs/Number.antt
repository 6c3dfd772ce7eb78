-- Numbers in bytes, high byte first: request A13, "two bytes length (high byte first)" and "8 bytes two's complement, high byte first".
-- Assumes nothing.
use Rattle.std.specs.Prelude.{ℕ, zero, suc, ◌+◌, ◌*◌, ◌/◌, ◌%◌, cond, List, [], ◌∷◌, ◌++◌, leb, length, get_or, take, drop, ℤ, Some}
use Rattle.field.specs.Field.{twos, pattern_of}

-- ---- over the number of bytes

-- the number in the first k bytes of s
unfoldable pub number : ℕ → List ℕ → ℕ
number zero s = 0
number (suc k) s = number k s * 256 + get_or s k 0

-- the k bytes of the number v
unfoldable pub bytes_of : ℕ → ℕ → List ℕ
bytes_of zero v = []
bytes_of (suc k) v = bytes_of k (v / 256) ++ (v % 256 ∷ [])

-- ---- "8 bytes two's complement"

-- the whole number in the first 8 bytes of s, and the 8 bytes of one
unfoldable pub whole : List ℕ → ℤ
whole s = twos 64 (number 8 s)

unfoldable pub whole_bytes : ℤ → List ℕ
whole_bytes z = bytes_of 8 (pattern_of 64 (Some z))

-- ---- at a place of lent bytes

-- s with these bytes from byte a on; s as it is where they reach past its end
unfoldable pub put_bytes : List ℕ → ℕ → List ℕ → List ℕ
put_bytes s a b = cond (leb (a + length b) (length s)) (take a s ++ (b ++ drop (a + length b) s)) s
