-- `heights_mean::greatest_of` meets its contract: a loop that keeps the greatest height so far.
-- Assumes nothing.
use native.Mathlib.Omega.{arith}
use native.Mathlib.Numerals.{add-one}
use Rattle.std.proofs.lemmas.Int.{to_z-of_z}
use Rattle.heights_mean.specs.Private.{greatest}
use Rattle.heights_mean.proofs.greatest_of.Goals as goal

pub loop-i-init : goal.loop-i-init
unfolding greatest
loop-i-init c = (omega arith, grind (arith, to_z-of_z))

pub loop-i-preserved : goal.loop-i-preserved
unfolding greatest
loop-i-preserved c = (omega arith, rw (add-one c.loop-i.i) (grind (arith, to_z-of_z)))
