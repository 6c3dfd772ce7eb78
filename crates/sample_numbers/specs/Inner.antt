-- What only promises between crates name.
-- Assumes nothing.
use Rattle.std.specs.Prelude.{ℕ, ◌+◌, cond, ◌&&◌, List, leb, length, drop, ℤ}
use Rattle.field.specs.Field.{twos}
use Rattle.sample_numbers.specs.Number.{number}

-- the number in the k bytes of s from byte a on, and the whole number in 8 bytes; 0 where k is above 8 or the bytes reach past the end
unfoldable pub number_at : List ℕ → ℕ → ℕ → ℕ
number_at s a k = cond (leb k 8 && leb (a + k) (length s)) (number k (drop a s)) 0

unfoldable pub whole_at : List ℕ → ℕ → ℤ
whole_at s a = twos 64 (number_at s a 8)
