-- `grid_shifts::nodes_of` meets its contract.
-- Assumes nothing.
use Rattle.grid_shifts.proofs.nodes_of.Goals as goal

pub returns : goal.returns
returns c = λ i. record {
  sw = c.node_of.ensures i;
  se = c.node_of-2.ensures i;
  nw = c.node_of-3.ensures i;
  ne = c.node_of-4.ensures i;
}
