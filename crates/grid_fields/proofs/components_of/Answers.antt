-- `grid_fields::components_of` meets its contract.
-- Assumes nothing.
use Rattle.grid_fields.proofs.components_of.Goals as goal

pub returns : goal.returns
returns c = λ i. record {
  north = c.component_of.ensures i;
  east = c.component_of-2.ensures i;
  height = c.component_of-3.ensures i;
}
