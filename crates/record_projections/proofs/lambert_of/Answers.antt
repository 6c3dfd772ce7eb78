-- `record_projections::lambert_of` meets its contract: each place of the row is read for the field that the definition names.
-- Assumes nothing.
use mathlib.Core.Path.{◌∙◌}
use Rattle.arith.proofs.Back.{held}
use Rattle.record_projections.specs.Projections.{lambert_of}
use Rattle.record_projections.proofs.lambert_of.Goals as goal

pub returns : goal.returns
unfolding lambert_of
returns c = λ i. record {
  number = (held _ c.number_at.type_inv ∙ c.number_at.ensures) i;
  sin = (held _ c.number_at-2.type_inv ∙ c.number_at-2.ensures) i;
  projection = (held _ c.number_at-3.type_inv ∙ c.number_at-3.ensures) i;
  latitude = c.says_at.ensures i;
  longitude = c.says_at-2.ensures i;
  parallel1 = c.says_at-3.ensures i;
  parallel2 = c.says_at-4.ensures i;
  easting = (held _ c.number_at-4.type_inv ∙ c.number_at-4.ensures) i;
  northing = c.says_at-5.ensures i;
}
