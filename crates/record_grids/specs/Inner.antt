-- What only promises between crates name.
-- Assumes nothing.
use Rattle.std.specs.Prelude.{ℕ, ℤ, Option}
use Rattle.record_rows.specs.Numbers.{number_at, pair_at}
use Rattle.record_grids.specs.declared.Settings.{Settings}
use Rattle.record_grids.specs.Grids.{origin_at, spacing_at}

unfoldable pub settings_at : (ℕ → Option ℤ) → Settings
settings_at v =
    record { number = number_at v 0; indicators = pair_at v 2; origin = origin_at v 4; spacing = spacing_at v 6; methods = pair_at v 59 }
