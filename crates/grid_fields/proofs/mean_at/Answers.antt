-- `grid_fields::mean_at` meets its contract.
-- Assumes nothing.
use Rattle.std.proofs.Common.{sym, ◌∙◌}
use Rattle.grid_fields.specs.Inner.{mean_says}
use Rattle.grid_fields.proofs.Table.{mean-1023, mean-1024}
use Rattle.grid_fields.proofs.mean_at.Goals as goal

pub returns-then-is_1023 : goal.returns-then-is_1023
unfolding mean_says
returns-then-is_1023 c = c.mean_from.ensures ∙ mean-1023 c.args.s.now (sym c.is_1023.ensures ∙ c.if-is_1023.true) c.args.component

pub returns : goal.returns
unfolding mean_says
returns c = c.mean_from-2.ensures ∙ mean-1024 c.args.s.now (sym c.is_1023.ensures ∙ c.if-is_1023.false) c.args.component
