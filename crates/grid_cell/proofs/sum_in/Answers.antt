-- `grid_cell::sum_in` meets its contract.
-- Assumes nothing.
use Rattle.std.proofs.Common.{sym, ◌∙◌}
use Rattle.grid_cell.proofs.Held.{held-says}
use Rattle.grid_cell.proofs.sum_in.Goals as goal

pub sum_of-requires : goal.sum_of-requires
sum_of-requires c = let a = c.args in held-says a.factor a.n a.h a.w a.y a.x (sym c.sum_held.ensures ∙ c.if-not-sum_held.false)
