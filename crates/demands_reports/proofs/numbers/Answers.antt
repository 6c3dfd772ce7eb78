-- `demands_reports::numbers` meets its contract, in which the theorems on the numbers of a report stand.
-- Assumes nothing.
use Rattle.report_points.proofs.Lists.{lists-are}
use Rattle.demands_reports.proofs.Agreement.{given-is-all}
use Rattle.demands_reports.proofs.Firsts.{smallest-is, greatest-is, none-answered}
use Rattle.demands_reports.proofs.numbers.Goals as goal

pub returns : goal.returns
returns c = record { given = given-is-all; smallest = smallest-is; greatest = greatest-is; none = none-answered; lists = λ s c ns es. lists-are s c ns es }
