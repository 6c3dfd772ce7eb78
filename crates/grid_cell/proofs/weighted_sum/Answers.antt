-- `grid_cell::weighted_sum` meets its contract: no operation overflows, as the four weights add up to the area.
-- Assumes nothing.
use Rattle.arith.proofs.Machine.{fits}
use Rattle.grid_cell.proofs.Sum.{p₄, s₂, s₃, s₄}
use Rattle.grid_cell.proofs.weighted_sum.Goals as goal

pub overflow_add-result : goal.overflow_add-result
overflow_add-result c = fits (s₂ c.args.k c.args.n c.requires.light c.requires.small)

pub overflow_add-result-2 : goal.overflow_add-result-2
overflow_add-result-2 c = fits (s₃ c.args.k c.args.n c.requires.light c.requires.small)

pub overflow_mul-result-4 : goal.overflow_mul-result-4
overflow_mul-result-4 c = fits (p₄ c.args.k c.args.n c.requires.light c.requires.small)

pub overflow_add-result-3 : goal.overflow_add-result-3
overflow_add-result-3 c = fits (s₄ c.args.k c.args.n c.requires.light c.requires.small)

pub returns : goal.returns
returns c = (s₄ c.args.k c.args.n c.requires.light c.requires.small).held
