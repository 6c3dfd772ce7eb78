-- `demands_datum::step` meets its contract by that of `datum::datum_step`.
-- Assumes nothing.
use mathlib.Core.Path.{◌∙◌}
use Rattle.field.proofs.Sign.{bits-z}
use Rattle.datum.specs.Step.{Stepped}
use Rattle.demands_datum.proofs.Steps.{in_order_lem, bound}
use Rattle.demands_datum.proofs.step.Goals as goal

pub returns : goal.returns
returns c = let promised : Stepped c.args.message.now c.args.x c.args.y c.args.z c.datum_step.result = rw (bits-z c.args.x c.ranges.x, bits-z c.args.y c.ranges.y, bits-z c.args.z c.ranges.z) at c.datum_step.ensures in
    let a = c.args in record { promise = promised; order = promised.refusal ∙ in_order_lem a.message.now a.x a.y a.z; bound = bound a.message.now a.x a.y a.z c.datum_step.result promised }
