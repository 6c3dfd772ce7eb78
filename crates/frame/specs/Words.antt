-- What can stand from a place on, byte by byte in the words of request A1.
-- Assumes nothing.
use Rattle.std.specs.Prelude.{ℕ, ◌+◌, ◌*◌, ◌≤◌, ◌<◌, List, [], ◌∷◌, ◌++◌, ◌≡◌, length, get_or}
use Rattle.frame.specs.Frames.{frame}

abbrev pub Bytes : List ℕ → Type 0
Bytes t = (i : ℕ) → get_or t i 0 < 256

-- a candidate whose bytes have not all arrived: a D3 that is the last byte; a D3 and a byte with six zero bits whose length byte, message or CRC
-- reaches past the end
unfoldable pub Calls : List ℕ → Type 0
Calls [] = ⊥
Calls (a ∷ []) = a ≡ 0xD3
Calls (a ∷ b ∷ []) = (a ≡ 0xD3) × (b < 4)
Calls (a ∷ b ∷ c ∷ rest) = (a ≡ 0xD3) × ((b < 4) × (length rest < b * 256 + c + 3))

-- a whole frame with a right CRC, of a message of n bytes: what is written for one, whatever follows
pub record Stands (t : List ℕ) (n : ℕ) : Type 0 where
  pub message : List ℕ
  pub behind : List ℕ
  pub written : t ≡ frame message ++ behind
  pub size : length message ≡ n
  pub short : n ≤ 1023
