-- `grid_counts::values_of` meets its contract.
-- Assumes nothing.
use mathlib.Core.Path.{◌∙◌}
use Rattle.arith.proofs.Back.{held}
use Rattle.grid_counts.proofs.values_of.Goals as goal

pub returns : goal.returns
returns c = λ i. record {
  sw = (held c.value_in.result c.value_in.type_inv ∙ c.value_in.ensures) i;
  se = (held c.value_in-2.result c.value_in-2.type_inv ∙ c.value_in-2.ensures) i;
  nw = (held c.value_in-3.result c.value_in-3.type_inv ∙ c.value_in-3.ensures) i;
  ne = (held c.value_in-4.result c.value_in-4.type_inv ∙ c.value_in-4.ensures) i;
}
