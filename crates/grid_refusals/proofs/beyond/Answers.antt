-- `grid_refusals::beyond` meets its contract.
-- Assumes nothing.
use Rattle.std.proofs.Common.{arith, tests}
use Rattle.std.proofs.lemmas.Int.{to_z-of_z}
use Rattle.arith.proofs.Order.{same-yes, same-no, fits-literal}
use Rattle.grid_refusals.proofs.beyond.Goals as goal

pub returns-then-n-gt3240000000 : goal.returns-then-n-gt3240000000
returns-then-n-gt3240000000 c = grind (arith, tests, to_z-of_z, same-yes, same-no, fits-literal)

pub returns-else-n-gt3240000000 : goal.returns-else-n-gt3240000000
returns-else-n-gt3240000000 c = grind (arith, tests, to_z-of_z, same-yes, same-no, fits-literal)

pub returns-else-n-gt1000000000000 : goal.returns-else-n-gt1000000000000
returns-else-n-gt1000000000000 c = grind (arith, tests, to_z-of_z, same-yes, same-no, fits-literal)
