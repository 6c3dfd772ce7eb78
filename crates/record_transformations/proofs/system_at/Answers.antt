-- `record_transformations::system_at` meets its contract: each place read is the one that the definition names.
-- Assumes nothing.
use mathlib.Core.Path.{◌∙◌}
use Rattle.arith.proofs.Back.{held}
use Rattle.record_transformations.specs.Transformations.{system_at}
use Rattle.record_transformations.proofs.system_at.Goals as goal

pub returns : goal.returns
unfolding system_at
returns c = λ i. record {
  sin = (held _ c.number_at.type_inv ∙ c.number_at.ensures) i;
  messages = (held _ c.number_at-2.type_inv ∙ c.number_at-2.ensures) i;
  plate = (held _ c.number_at-3.type_inv ∙ c.number_at-3.ensures) i;
  computation = (held _ c.number_at-4.type_inv ∙ c.number_at-4.ensures) i;
  height = (held _ c.number_at-5.type_inv ∙ c.number_at-5.ensures) i;
}
