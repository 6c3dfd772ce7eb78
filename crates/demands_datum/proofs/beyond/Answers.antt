-- `demands_datum::beyond` meets its contract, which is that of `datum_formula::beyond`.
-- Assumes nothing.
use Rattle.field.proofs.Sign.{bits-z}
use Rattle.demands_datum.proofs.beyond.Goals as goal

pub returns : goal.returns
returns c = rw (bits-z c.args.a c.ranges.a, bits-z c.args.b c.ranges.b, bits-z c.args.c c.ranges.c) at c.beyond.ensures
