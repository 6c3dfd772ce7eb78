-- `grid_place::steps_of` meets its contract.
-- Assumes nothing.
use Rattle.arith.proofs.Order.{signed-tests}
use Rattle.grid_place.proofs.steps_of.Goals as goal

pub returns-then-number-eq1023 : goal.returns-then-number-eq1023
returns-then-number-eq1023 c = search signed-tests

pub returns : goal.returns
returns c = search signed-tests
