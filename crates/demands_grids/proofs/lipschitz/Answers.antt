-- `demands_grids::lipschitz` carries its theorems: demand 3.
-- Assumes nothing.
use Rattle.demands_grids.proofs.Grids.{lipschitz, plain-steps}
use Rattle.demands_grids.proofs.lipschitz.Goals as goal

pub returns : goal.returns
returns c = record { bound = lipschitz; steps = plain-steps }
