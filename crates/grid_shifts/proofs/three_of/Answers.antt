-- `grid_shifts::three_of` meets its contract.
-- Assumes nothing.
use Rattle.grid_shifts.specs.Shift.{three_of}
use Rattle.grid_shifts.proofs.three_of.Goals as goal

pub returns : goal.returns
unfolding three_of
returns c = let a = c.args in
    λ i. record {
      north = c.float_of.ensures i;
      east = c.float_of-2.ensures i;
      height = c.float_of-3.ensures i;
      parts = record { north = a.n; east = a.e; height = a.h };
    }
