-- `field::signed_at` meets its contract.
-- Assumes nothing.
use mathlib.Core.Path.{ap, ◌∙◌}
use Rattle.field.specs.Inner.{signed_at}
use Rattle.field.specs.Field.{signed_of}
use Rattle.field.proofs.Place.{low-field_at}
use Rattle.field.proofs.signed_at.Goals as goal

pub returns : goal.returns
unfolding signed_at
returns c = let a = c.args in
    c.signed_low.ensures
    ∙ rw c.field_at.ensures (ap (signed_of a.w) (low-field_at a.s.now a.p a.w))
