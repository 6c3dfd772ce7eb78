-- `grid_fields::means_at` meets its contract.
-- Assumes nothing.
use Rattle.std.proofs.Common.{sym, ◌∙◌}
use Rattle.grid_fields.proofs.Table.{means-1023, means-1024}
use Rattle.grid_fields.proofs.means_at.Goals as goal

pub returns-then-is_1023 : goal.returns-then-is_1023
returns-then-is_1023 c = c.means_from.ensures ∙ means-1023 c.args.s.now (sym c.is_1023.ensures ∙ c.if-is_1023.true)

pub returns : goal.returns
returns c = c.means_from-2.ensures ∙ means-1024 c.args.s.now (sym c.is_1023.ensures ∙ c.if-is_1023.false)
