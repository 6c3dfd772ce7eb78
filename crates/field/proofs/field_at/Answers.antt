-- `field::field_at` meets its contract.
-- Assumes nothing.
use mathlib.Core.Path.{sym, ◌∙◌}
use Rattle.field.specs.Inner.{field_at}
use Rattle.field.proofs.Place.{contained}
use Rattle.field.proofs.field_at.Goals as goal

pub number_in-requires : goal.number_in-requires
number_in-requires c = let a = c.args in contained a.s.now a.p a.w (sym c.contains_field.ensures ∙ c.if-contains_field.true)

pub returns-then-contains_field : goal.returns-then-contains_field
unfolding field_at
returns-then-contains_field c = rw (sym c.contains_field.ensures ∙ c.if-contains_field.true) c.number_in.ensures

pub returns : goal.returns
unfolding field_at
returns c = rw (sym c.contains_field.ensures ∙ c.if-contains_field.false)
