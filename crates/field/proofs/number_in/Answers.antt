-- `field::number_in` meets its contract.
-- Assumes nothing.
use mathlib.Core.Path.{◌≡◌}
use native.Mathlib.Omega.{arith}
use Rattle.field.specs.Field.{field}
use Rattle.field.proofs.number_in.Goals as goal

pub returns : goal.returns
unfolding field
returns c = let e : c.args.w ≡ 0 = omega arith in rw e
