-- `record_projections::oblique_mercator_of` meets its contract: each place of the row is read for the field that the definition names.
-- Assumes nothing.
use mathlib.Core.Path.{◌∙◌}
use Rattle.arith.proofs.Back.{held}
use Rattle.record_projections.specs.Projections.{oblique_mercator_of}
use Rattle.record_projections.proofs.oblique_mercator_of.Goals as goal

pub returns : goal.returns
unfolding oblique_mercator_of
returns c = λ i. record {
  number = (held _ c.number_at.type_inv ∙ c.number_at.ensures) i;
  sin = (held _ c.number_at-2.type_inv ∙ c.number_at-2.ensures) i;
  projection = (held _ c.number_at-3.type_inv ∙ c.number_at-3.ensures) i;
  rectified = (held _ c.number_at-4.type_inv ∙ c.number_at-4.ensures) i;
  latitude = c.says_at.ensures i;
  longitude = c.says_at-2.ensures i;
  azimuth = (held _ c.number_at-5.type_inv ∙ c.number_at-5.ensures) i;
  difference = c.says_at-3.ensures i;
  scale = (held _ c.number_at-6.type_inv ∙ c.number_at-6.ensures) i;
  easting = (held _ c.number_at-7.type_inv ∙ c.number_at-7.ensures) i;
  northing = c.says_at-4.ensures i;
}
