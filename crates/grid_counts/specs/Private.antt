-- What the private functions answer.
-- Assumes nothing.
use Rattle.std.specs.Prelude.{cond, ℕ, eqb, ℤ, Option, Some}
use Rattle.layout.specs.Layout.{value_in}

-- what a node says that has this weight: without weight it is not asked for
abbrev pub asked : ℕ → Option ℤ → Option ℤ
asked weight r = cond (eqb weight 0) (Some (value_in r)) r
