-- What only promises between crates name.
-- Assumes nothing.
use Rattle.std.specs.Prelude.{◌-◌, List, ◌++◌, length, replicate, ℤ, pos}

-- a row, and zeros up to 96 numbers: no message has more
unfoldable pub padded : List ℤ → List ℤ
padded v = v ++ replicate (96 - length v) (pos 0)
