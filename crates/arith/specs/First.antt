-- Refusals in order: document 01, "Refusal numbers".
-- Assumes nothing.
use Rattle.std.specs.Prelude.{ℕ, Bool, cond, List, [], ◌∷◌}

-- a refusal number and the test under which it applies
abbrev pub Test : Type 0
Test = ℕ × Bool

-- the number of the first test that holds, 0 where none does
abbrev pub first : List Test → ℕ
first [] = 0
first (t ∷ ts) = cond t.1 t.0 (first ts)
