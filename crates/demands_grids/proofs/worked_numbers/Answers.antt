-- `demands_grids::worked_numbers` carries its theorems: the worked numbers.
-- Assumes nothing.
use Rattle.demands_grids.proofs.Worked.{worked-numbers, worked-metres, grids-read, grid-k-present}
use Rattle.demands_grids.proofs.worked_numbers.Goals as goal

pub returns : goal.returns
returns c = record { table = worked-numbers; metres = worked-metres; read = grids-read; present = grid-k-present }
