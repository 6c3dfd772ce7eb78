-- What only promises between crates name.
-- Assumes nothing.
use Rattle.std.specs.Prelude.{ℕ, cond, List, leb}
use Rattle.layout_tables.specs.Layouts.{layout_of}

-- ---- by any numbers: a counter above 31, which no message has, counts as 0

abbrev pub counter : ℕ → ℕ
counter n = cond (leb n 31) n 0

unfoldable pub layout_by : ℕ → ℕ → ℕ → List ℕ
layout_by k n m = layout_of k (counter n) (counter m)
