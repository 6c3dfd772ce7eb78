-- `grid_cell::sum_by` meets its contract.
-- Assumes nothing.
use Rattle.std.proofs.Common.{◌∙◌}
use Rattle.arith.proofs.Back.{held}
use Rattle.grid_cell.specs.Inner.{weighted_by}
use Rattle.grid_cell.proofs.Sum.{counts}
use Rattle.grid_cell.proofs.sum_by.Goals as goal

pub returns : goal.returns
returns c = let f = c.args.factor in
    let n = c.args.n in
    let h = c.requires in
    held c.weighted_sum.result c.weighted_sum.type_inv
    ∙ c.weighted_sum.ensures
    ∙ (λ i. weighted_by c.args.k (counts f n.sw h.2 h.1.sw i) (counts f n.se h.2 h.1.se i) (counts f n.nw h.2 h.1.nw i) (counts f n.ne h.2 h.1.ne i))
