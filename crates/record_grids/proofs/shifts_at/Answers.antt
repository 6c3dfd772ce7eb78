-- `record_grids::shifts_at` meets its contract: each place of the row is read for the field that the definition names.
-- Assumes nothing.
use Rattle.record_grids.specs.Grids.{shifts_at}
use Rattle.record_grids.proofs.shifts_at.Goals as goal

pub returns : goal.returns
unfolding shifts_at
returns c = λ i. record { north = c.says_at.ensures i; east = c.says_at-2.ensures i; height = c.says_at-3.ensures i }
