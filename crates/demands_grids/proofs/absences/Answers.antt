-- `demands_grids::absences` carries its theorems: not available is not a number.
-- Assumes nothing.
use Rattle.demands_grids.proofs.Absent.{none-is-the-pattern, accepted-none, unsigned-has-value, pattern-refused, record-pattern-refused, refused-is-zero, mean-formed}
use Rattle.demands_grids.proofs.absences.Goals as goal

pub returns : goal.returns
returns c = record { none = none-is-the-pattern; fields = accepted-none; unsigned = unsigned-has-value; written = pattern-refused; records = record-pattern-refused; refused = refused-is-zero; mean = mean-formed }
