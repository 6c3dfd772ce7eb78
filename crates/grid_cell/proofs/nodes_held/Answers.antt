-- `grid_cell::nodes_held` meets its contract.
-- Assumes nothing.
use Rattle.std.proofs.Common.{tests, arith}
use Rattle.std.proofs.lemmas.Int.{to_z-of_z}
use Rattle.grid_cell.specs.Inner.{nodes_held}
use Rattle.grid_cell.proofs.nodes_held.Goals as goal

pub returns-else-unsigned_abs-le256-3 : goal.returns-else-unsigned_abs-le256-3
unfolding nodes_held
returns-else-unsigned_abs-le256-3 c = grind (arith, tests, to_z-of_z)
