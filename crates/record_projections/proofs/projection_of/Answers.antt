-- `record_projections::projection_of` meets its contract: each place of the row is read for the field that the definition names.
-- Assumes nothing.
use mathlib.Core.Path.{◌∙◌}
use Rattle.arith.proofs.Back.{held}
use Rattle.record_projections.specs.Projections.{projection_of}
use Rattle.record_projections.proofs.projection_of.Goals as goal

pub returns : goal.returns
unfolding projection_of
returns c = λ i. record {
  number = (held _ c.number_at.type_inv ∙ c.number_at.ensures) i;
  sin = (held _ c.number_at-2.type_inv ∙ c.number_at-2.ensures) i;
  projection = (held _ c.number_at-3.type_inv ∙ c.number_at-3.ensures) i;
  latitude = c.says_at.ensures i;
  longitude = c.says_at-2.ensures i;
  scale = (held _ c.number_at-4.type_inv ∙ c.number_at-4.ensures) i;
  easting = (held _ c.number_at-5.type_inv ∙ c.number_at-5.ensures) i;
  northing = c.says_at-3.ensures i;
}
