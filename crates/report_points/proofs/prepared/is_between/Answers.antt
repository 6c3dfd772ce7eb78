-- `report_points::prepared::is_between` meets its contract: the tests are the edges'.
-- Assumes nothing.
use Rattle.std.proofs.Common.{arith, tests}
use Rattle.std.proofs.lemmas.Int.{ints, to_z-of_z}
use Rattle.report_points.proofs.prepared.is_between.Goals as goal

pub returns-then-p-east : goal.returns-then-p-east
returns-then-p-east c h = record {
  south = grind (arith, ints, tests, to_z-of_z);
  north = grind (arith, ints, tests, to_z-of_z);
  west = grind (arith, ints, tests, to_z-of_z);
  east = grind (arith, ints, tests, to_z-of_z);
}
