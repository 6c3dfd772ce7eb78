-- `record_transformations::ellipsoids_at` meets its contract: each place read is the one that the definition names.
-- Assumes nothing.
use mathlib.Core.Path.{◌∙◌}
use Rattle.arith.proofs.Back.{held}
use Rattle.record_transformations.specs.Transformations.{ellipsoids_at}
use Rattle.record_transformations.proofs.ellipsoids_at.Goals as goal

pub returns : goal.returns
unfolding ellipsoids_at
returns c = λ i. record {
  source_major = (held _ c.number_at.type_inv ∙ c.number_at.ensures) i;
  source_minor = (held _ c.number_at-2.type_inv ∙ c.number_at-2.ensures) i;
  target_major = (held _ c.number_at-3.type_inv ∙ c.number_at-3.ensures) i;
  target_minor = (held _ c.number_at-4.type_inv ∙ c.number_at-4.ensures) i;
}
