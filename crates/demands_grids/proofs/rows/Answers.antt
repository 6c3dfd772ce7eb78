-- `demands_grids::rows` carries its theorems: rows of shifts.
-- Assumes nothing.
use Rattle.demands_grids.proofs.ShiftRows.{row-equals, refused-keeps, row-numbers, whole-turn}
use Rattle.demands_grids.proofs.rows.Goals as goal

pub returns : goal.returns
returns c = record { equals = row-equals; refused = refused-keeps; numbers = row-numbers; turn = whole-turn }
