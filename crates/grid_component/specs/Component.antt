-- The shift of one component at a position, by a grid message that is read once: one part of request A3's call, for requests A10 and A13.
-- Assumes nothing.
use Rattle.grid_counts.specs.declared.Counted.{Counted}
use Rattle.grid_shifts.specs.declared.Shift.{Shift}

-- the refusal and the count of a part
abbrev pub counted : Shift → Counted
counted p = record { refusal = p.refusal; count = p.count }
