-- What private functions promise of the parts of a grid's row.
-- Assumes nothing.
use Rattle.std.specs.Prelude.{List, [], ◌∷◌, ◌++◌, ℤ, Option, Some}
use Rattle.record_rows.specs.declared.Pair.{Pair}
use Rattle.record_rows.specs.Numbers.{pair_row}
use Rattle.record_grids.specs.declared.Origin.{Origin}
use Rattle.record_grids.specs.declared.Spacing.{Spacing}
use Rattle.record_grids.specs.declared.Shifts.{Shifts}
use Rattle.record_grids.specs.Grids.{origin_row, spacing_row, shifts_row}

-- the row before the nodes, and the row behind them
abbrev pub start_row : ℤ → ℤ → Pair → Origin → Spacing → Shifts → List (Option ℤ)
start_row number sin indicators origin spacing mean =
    (Some number ∷ Some sin ∷ []) ++ pair_row indicators ++ origin_row origin ++ spacing_row spacing ++ shifts_row mean

abbrev pub end_row : Pair → Pair → ℤ → List (Option ℤ)
end_row methods quality day = pair_row methods ++ pair_row quality ++ (Some day ∷ [])
