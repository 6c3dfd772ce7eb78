-- What the private functions ask for.
-- Assumes nothing.
use Rattle.std.specs.Prelude.{◌≡◌, true, ◌≤◌, pos, nat_abs}
use Rattle.arith.specs.Whole.{natural}
use Rattle.layout.specs.Layout.{value_in}
use Rattle.record_grids.specs.declared.Settings.{Settings}
use Rattle.grid_refusals.specs.Refusals.{ellipsoidal}

-- what the ranges of the fields say of the settings of a grid that a message holds
pub record Fields (f : Settings) : Type 0 where
  pub north : nat_abs (value_in f.origin.north) ≤ 67108864
  pub east : nat_abs (value_in f.origin.east) ≤ 67108864
  pub rows : (f.spacing.north ≡ pos (natural f.spacing.north)) × (natural f.spacing.north ≤ 4095)
  pub columns : (f.spacing.east ≡ pos (natural f.spacing.east)) × (natural f.spacing.east ≤ 4095)
  pub longitude : ellipsoidal f.number ≡ true → nat_abs (value_in f.origin.east) ≤ 1296000
