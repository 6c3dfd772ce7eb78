-- `grid_fields::component_of` meets its contract.
-- Assumes nothing.
use Rattle.grid_fields.proofs.component_of.Goals as goal

pub returns : goal.returns
returns c = λ i. record {
  sw = c.nine_bits.ensures i;
  se = c.nine_bits-2.ensures i;
  nw = c.nine_bits-3.ensures i;
  ne = c.nine_bits-4.ensures i;
}
