-- What private functions ask and answer.
-- Assumes nothing.
use Rattle.std.specs.Prelude.{ℕ, List, [], ◌∷◌, replicate}
use Rattle.layout.specs.Layout.{uint, int}

-- the fields of the sixteen grid points, and those behind them
unfoldable pub nodes : List ℕ
nodes = replicate 48 (int 9)

unfoldable pub behind : List ℕ
behind = uint 2 ∷ uint 2 ∷ uint 3 ∷ uint 3 ∷ uint 16 ∷ []
