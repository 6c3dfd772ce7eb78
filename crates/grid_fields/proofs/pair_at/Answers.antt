-- `grid_fields::pair_at` meets its contract.
-- Assumes nothing.
use mathlib.Core.Path.{◌∙◌}
use Rattle.arith.proofs.Back.{held}
use Rattle.grid_fields.proofs.pair_at.Goals as goal

pub returns : goal.returns
returns c = λ i. record {
  horizontal = (held _ c.number_at.type_inv ∙ c.number_at.ensures) i;
  vertical = (held _ c.number_at-2.type_inv ∙ c.number_at-2.ensures) i;
}
