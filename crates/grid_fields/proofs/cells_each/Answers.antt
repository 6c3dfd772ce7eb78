-- `grid_fields::cells_each` meets its contract.
-- Assumes nothing.
use Rattle.grid_fields.proofs.cells_each.Goals as goal

pub returns : goal.returns
returns c = λ i. record {
  north = c.nodes_at.ensures i;
  east = c.nodes_at-2.ensures i;
  height = c.nodes_at-3.ensures i;
}
