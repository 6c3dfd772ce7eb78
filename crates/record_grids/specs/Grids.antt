-- The records of messages 1023 and 1024, from the row of a message and back: v k is what place k says in wire order, DF002 standing at place 0.
-- A signed field of a record is what it says, a value or none; an unsigned one is a number.
-- Assumes nothing.
use Rattle.std.specs.Prelude.{ℕ, ◌+◌, ◌*◌, List, [], ◌∷◌, ◌++◌, ℤ, Option, Some}
use Rattle.arith.specs.Lists.{up_to}
use Rattle.record_rows.specs.Numbers.{number_at, pair_at, pair_row}
use Rattle.record_grids.specs.declared.Origin.{Origin}
use Rattle.record_grids.specs.declared.Spacing.{Spacing}
use Rattle.record_grids.specs.declared.Shifts.{Shifts}
use Rattle.record_grids.specs.declared.Grid.{Grid}
use Rattle.record_grids.specs.declared.Settings.{Settings}

-- ---- parts of records: from place k on, and as a row

-- DF192 and DF193, or DF202 and DF203: DF203 is unsigned, and its row says a value in every message
unfoldable pub origin_at : (ℕ → Option ℤ) → ℕ → Origin
origin_at v k = record { north = v k; east = v (k + 1) }

unfoldable pub origin_row : Origin → List (Option ℤ)
origin_row r = r.north ∷ r.east ∷ []

unfoldable pub spacing_at : (ℕ → Option ℤ) → ℕ → Spacing
spacing_at v k = record { north = number_at v k; east = number_at v (k + 1) }

unfoldable pub spacing_row : Spacing → List (Option ℤ)
spacing_row r = Some r.north ∷ Some r.east ∷ []

unfoldable pub shifts_at : (ℕ → Option ℤ) → ℕ → Shifts
shifts_at v k = record { north = v k; east = v (k + 1); height = v (k + 2) }

unfoldable pub shifts_row : Shifts → List (Option ℤ)
shifts_row r = r.north ∷ r.east ∷ r.height ∷ []

-- the sixteen nodes, three places each, from place k on
unfoldable pub nodes_at : (ℕ → Option ℤ) → ℕ → List Shifts
nodes_at v k = up_to (λ i. shifts_at v (k + 3 * i)) 16

unfoldable pub nodes_row : List Shifts → List (Option ℤ)
nodes_row [] = []
nodes_row (n ∷ ns) = shifts_row n ++ nodes_row ns

-- ---- the record

unfoldable pub grid_of : (ℕ → Option ℤ) → Grid
grid_of v =
    record {
      number = number_at v 0;
      sin = number_at v 1;
      indicators = pair_at v 2;
      origin = origin_at v 4;
      spacing = spacing_at v 6;
      mean = shifts_at v 8;
      nodes = nodes_at v 11;
      methods = pair_at v 59;
      quality = pair_at v 61;
      day = number_at v 63;
    }

unfoldable pub grid_row : Grid → List (Option ℤ)
grid_row r =
    (Some r.number ∷ Some r.sin ∷ [])
    ++ pair_row r.indicators
    ++ origin_row r.origin
    ++ spacing_row r.spacing
    ++ shifts_row r.mean
    ++ nodes_row r.nodes
    ++ pair_row r.methods
    ++ pair_row r.quality
    ++ (Some r.day ∷ [])

-- ---- what a grid says besides its shifts

abbrev pub settings_of : Grid → Settings
settings_of g =
    record { number = g.number; indicators = g.indicators; origin = g.origin; spacing = g.spacing; methods = g.methods }
