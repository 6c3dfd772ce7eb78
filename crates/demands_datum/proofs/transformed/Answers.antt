-- `demands_datum::transformed` meets its contract by that of `datum_formula::transformed`.
-- Assumes nothing.
use Prim.Native.Nat.{◌*◌, ◌^◌}
use Rattle.arith.specs.First.{first}
use Rattle.field.proofs.Sign.{bits-z}
use Rattle.datum_formula.specs.Formula.{formula_tests, Answered}
use Rattle.demands_datum.proofs.Steps.{formula-bound}
use Rattle.demands_datum.proofs.transformed.Goals as goal

pub returns : goal.returns
returns c = let promised : Answered (521 * 10 ^ 32) (first (formula_tests c.args.v c.args.x c.args.y c.args.z)) c.args.v c.args.x c.args.y c.args.z c.transformed.result = rw (bits-z c.args.x c.ranges.x, bits-z c.args.y c.ranges.y, bits-z c.args.z c.ranges.z) at c.transformed.ensures in
    let a = c.args in record { promise = promised; bound = formula-bound a.v a.x a.y a.z c.transformed.result promised }
