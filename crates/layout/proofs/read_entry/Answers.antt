-- `layout::read_entry` meets its contract.
-- Assumes nothing.
use mathlib.Core.Path.{ap, ◌∙◌}
use native.Mathlib.Nat.{mod-eq_of_lt}
use Rattle.field.proofs.Place.{field_at-lt}
use Rattle.layout.specs.Layout.{width, reading_of}
use Rattle.layout.proofs.read_entry.Goals as goal

pub returns : goal.returns
returns c = let a = c.args in
    c.read_low.ensures
    ∙ rw c.field_at.ensures (ap (reading_of a.e) (mod-eq_of_lt (field_at-lt a.s.now a.p (width a.e))))
