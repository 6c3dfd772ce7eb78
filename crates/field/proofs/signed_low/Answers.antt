-- `field::signed_low` meets its contract.
-- Assumes nothing.
use mathlib.Core.Path.{sym}
use Rattle.field.proofs.Place.{wide-says}
use Rattle.field.proofs.signed_low.Goals as goal

pub returns-then-w-gt63 : goal.returns-then-w-gt63
returns-then-w-gt63 c = let a = c.args in sym (wide-says a.w a.u c.if-w-gt63.true)
