-- `demands_datum::worked_steps` carries its theorem.
-- Assumes nothing.
use Rattle.demands_datum.proofs.Worked as Worked
use Rattle.demands_datum.proofs.worked_steps.Goals as goal

pub returns : goal.returns
returns c = Worked.worked-steps
