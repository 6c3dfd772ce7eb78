-- `report_update::with_refused` meets its contract.
-- Assumes nothing.
use mathlib.Core.Path.{refl}
use Rattle.report_update.specs.Update.{with_refused}
use Rattle.report_update.proofs.with_refused.Goals as goal

pub returns : goal.returns
unfolding with_refused
returns c = refl
