-- What only promises between crates name.
-- Assumes nothing.
use Rattle.std.specs.Prelude.{ℤ}
use Rattle.record_grids.specs.declared.Grid.{Grid}
use Rattle.grid_shifts.specs.declared.ThreeShifts.{ThreeShifts}
use Rattle.grid_shifts.specs.Shift.{record_shift, three_of}

-- "Each part is exactly what the single call gave"
unfoldable pub record_shifts : Grid → ℤ → ℤ → ThreeShifts
record_shifts g n e = three_of (record_shift g 0 n e) (record_shift g 1 n e) (record_shift g 2 n e)
