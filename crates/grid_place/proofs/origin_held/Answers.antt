-- `grid_place::origin_held` meets its contract.
-- Assumes nothing.
use Rattle.std.proofs.Common.{arith, tests}
use Rattle.std.proofs.lemmas.Int.{to_z-of_z}
use Rattle.arith.proofs.Order.{same-yes, same-no, fits-literal}
use Rattle.grid_place.proofs.origin_held.Goals as goal

pub returns-then-unsigned_abs-le67108864 : goal.returns-then-unsigned_abs-le67108864
returns-then-unsigned_abs-le67108864 c = grind (arith, tests, to_z-of_z, same-yes, same-no, fits-literal)
