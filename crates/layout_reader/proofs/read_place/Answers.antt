-- `layout_reader::read_place` meets its contract.
-- Assumes nothing.
use mathlib.Core.Path.{ap, ◌∙◌}
use native.Mathlib.Omega.{arith}
use lib.ListN.{set}
use mir.Syntax.{w64}
use mir.ValLaws.{to_z-of_z}
use Rattle.field.proofs.Place.{field-inside}
use Rattle.layout.specs.Layout.{width, reading_of, value_in, present_in}
use Rattle.layout_reader.proofs.read_place.Goals as goal

pub returns-clause-values : goal.returns-clause-values
returns-clause-values c = let a = c.args in
    ap (set a.values.now a.i)
    (to_z-of_z w64 _ (record { sfits = c.value_in.type_inv }) ∙ c.value_in.ensures
    ∙ ap value_in (c.read_entry-r.ensures ∙ ap (reading_of a.e) (field-inside a.s.now a.p (width a.e) (omega arith) (omega arith) (omega arith))))

pub returns-clause-present : goal.returns-clause-present
returns-clause-present c = let a = c.args in
    ap (set a.present.now a.i)
    (c.present_in.ensures
    ∙ ap present_in (c.read_entry-r.ensures ∙ ap (reading_of a.e) (field-inside a.s.now a.p (width a.e) (omega arith) (omega arith) (omega arith))))
