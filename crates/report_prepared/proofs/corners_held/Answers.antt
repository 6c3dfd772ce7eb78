-- `report_prepared::corners_held` meets its contract.
-- Assumes nothing.
use Rattle.std.proofs.Common.{arith, tests}
use Rattle.std.proofs.lemmas.Int.{to_z-of_z}
use Rattle.report_prepared.proofs.corners_held.Goals as goal

pub returns-then-outcome_number-eq0 : goal.returns-then-outcome_number-eq0
returns-then-outcome_number-eq0 c = grind (arith, tests, to_z-of_z)
