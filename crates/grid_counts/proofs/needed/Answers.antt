-- `grid_counts::needed` meets its contract.
-- Assumes nothing.
use Rattle.std.proofs.Common.{Some}
use mathlib.Core.Path.{ap, ◌∙◌}
use borrow.Author.Tests.{eq-eqb, ne_eqb}
use Rattle.arith.proofs.Back.{held}
use Rattle.grid_counts.proofs.needed.Goals as goal

pub returns-then-weight-ne0 : goal.returns-then-weight-ne0
returns-then-weight-ne0 c = rw (ne_eqb c.args.weight 0 c.if-weight-ne0.true)

pub returns : goal.returns
returns c = ap Some (held c.value_in.result c.value_in.type_inv ∙ c.value_in.ensures) ∙ rw (eq-eqb c.args.weight 0 c.if-weight-ne0.false)

pub value_in-requires : goal.value_in-requires
value_in-requires c = tt
