-- `report_update::empty` meets its contract: the tally of no points is all zeros.
-- Assumes nothing.
use mathlib.Core.Path.{◌≡◌, refl}
use mathlib.Core.Bool.{Bool, true, false, cond}
use mathlib.Core.List.{List, []}
use lib.Dec.{eqb}
use Rattle.grid_counts.specs.declared.Counted.{Counted}
use Rattle.report_update.specs.Numbers.{tally_of}
use Rattle.report_update.proofs.empty.Goals as goal

same : (t : Bool) (os : List Counted) → os ≡ cond t os os
same true os = refl
same false os = refl

pub returns : goal.returns
unfolding tally_of
returns c = λ i. record { refusal = c.args.refusal; tally = tally_of (same (eqb c.args.refusal 0) [] i) }
