-- `record_rows::number_at` meets its contract.
-- Assumes nothing.
use mathlib.Core.Path.{ap, ◌∙◌}
use Rattle.arith.proofs.Back.{held}
use Rattle.layout.specs.Layout.{value_in}
use Rattle.record_rows.proofs.number_at.Goals as goal

pub returns : goal.returns
returns c = held c.value_in.result c.value_in.type_inv ∙ c.value_in.ensures ∙ ap value_in c.says_at.ensures
