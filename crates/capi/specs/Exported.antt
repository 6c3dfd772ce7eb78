-- The three shifts as the exported call answers them: request A3, with document 01's second answer.
-- Assumes nothing.
use Rattle.std.specs.Prelude.{ℕ, List, ℤ}
use Rattle.grid_shifts.specs.Shift.{message_shifts}
use Rattle.grid_shifts.specs.declared.Answer.{Answer}
use Rattle.grid_shifts.specs.declared.Answer.TheVariants.{Seconds, Metres, Refused}
use Rattle.grid_shifts.specs.declared.ThreeShifts.{ThreeShifts}
use Rattle.capi.specs.declared.Shifts.{Shifts}

-- the unit of a second answer, "as arc seconds, metres or a refusal number": 0 refused, 1 arc seconds, 2 metres
unfoldable pub unit_of : Answer → ℕ
unit_of (Seconds x) = 1
unit_of (Metres x) = 2
unit_of (Refused r) = 0

-- "a record of the three shifts as floats, with their three counts and three numbers"
abbrev pub exported : ThreeShifts → Shifts
exported r =
    record {
      north = r.north;
      east = r.east;
      height = r.height;
      north_count = r.parts.north.count;
      east_count = r.parts.east.count;
      height_count = r.parts.height.count;
      north_refusal = r.parts.north.refusal;
      east_refusal = r.parts.east.refusal;
      height_refusal = r.parts.height.refusal;
      north_unit = unit_of r.parts.north.answer;
      east_unit = unit_of r.parts.east.answer;
      height_unit = unit_of r.parts.height.answer;
    }

unfoldable pub exported_shifts : List ℕ → ℤ → ℤ → Shifts
exported_shifts s n e = exported (message_shifts s n e)
