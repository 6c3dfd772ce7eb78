-- `grid_place::settings_held` meets its contract.
-- Assumes nothing.
use Rattle.std.proofs.Common.{arith, tests}
use Rattle.std.proofs.lemmas.Int.{to_z-of_z}
use Rattle.grid_place.specs.Inner.{settings_held}
use Rattle.grid_place.proofs.settings_held.Goals as goal

pub returns-then-spacing_held : goal.returns-then-spacing_held
unfolding settings_held
returns-then-spacing_held c = grind (arith, tests, to_z-of_z)

pub returns-else-spacing_held : goal.returns-else-spacing_held
unfolding settings_held
returns-else-spacing_held c = grind (arith, tests, to_z-of_z)
