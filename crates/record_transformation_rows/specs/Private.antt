-- What private functions promise of a character.
-- Assumes nothing.
use Rattle.std.specs.Prelude.{ℕ, List, ℤ, pos, get_or}

-- the value of character j
abbrev pub char_value : List ℕ → ℕ → ℤ
char_value chars j = pos (get_or chars j 0)
