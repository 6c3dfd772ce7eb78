-- `record_transformations::area_at` meets its contract: each place read is the one that the definition names.
-- Assumes nothing.
use mathlib.Core.Path.{◌∙◌}
use Rattle.arith.proofs.Back.{held}
use Rattle.record_transformations.specs.Transformations.{area_at}
use Rattle.record_transformations.proofs.area_at.Goals as goal

pub returns : goal.returns
unfolding area_at
returns c = λ i. record {
  latitude = c.says_at.ensures i;
  longitude = c.says_at-2.ensures i;
  north = (held _ c.number_at.type_inv ∙ c.number_at.ensures) i;
  east = (held _ c.number_at-2.type_inv ∙ c.number_at-2.ensures) i;
}
