-- `record_grids::spacing_at` meets its contract: each place of the row is read for the field that the definition names.
-- Assumes nothing.
use mathlib.Core.Path.{◌∙◌}
use Rattle.arith.proofs.Back.{held}
use Rattle.record_grids.specs.Grids.{spacing_at}
use Rattle.record_grids.proofs.spacing_at.Goals as goal

pub returns : goal.returns
unfolding spacing_at
returns c = λ i. record {
  north = (held _ c.number_at.type_inv ∙ c.number_at.ensures) i;
  east = (held _ c.number_at-2.type_inv ∙ c.number_at-2.ensures) i;
}
