-- `grid_cell::weights_in` meets its contract.
-- Assumes nothing.
use Rattle.std.proofs.Common.{sym, ◌∙◌}
use Rattle.grid_cell.proofs.Held.{within_of}
use Rattle.grid_cell.proofs.weights_in.Goals as goal

pub weights_of-requires : goal.weights_of-requires
weights_of-requires c = within_of (sym c.place_held.ensures ∙ c.if-not-place_held.false)
