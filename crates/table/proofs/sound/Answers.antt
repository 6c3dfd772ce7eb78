-- `table::sound` meets its contract: each return is a case of the definition.
-- Assumes nothing.
use mathlib.Core.Bool.{true}
use mathlib.Core.Path.{◌≡◌, ◌∙◌}
use borrow.Author.Tests.{le-leb, lt-leb}
use Rattle.table_slots.specs.Slots.{most}
use Rattle.table.specs.Table.{well_slots, well_formed}
use Rattle.table.proofs.Whole.{slots-size}
use Rattle.table.proofs.Marks.{row-slots}
use Rattle.table.proofs.sound.Goals as goal

pub returns-then-not-sound_marks : goal.returns-then-not-sound_marks
unfolding well_formed
returns-then-not-sound_marks c = rw (row-slots c.args.table.now _ c.requires c.sound_marks.ensures ∙ c.if-not-sound_marks.true)

pub held_by-requires : goal.held_by-requires
held_by-requires c = let well : well_slots c.args.table.now ≡ true = row-slots _ _ c.requires c.sound_marks.ensures ∙ c.if-not-sound_marks.false in
    slots-size _ well

pub returns-then-held_by-gt-MOST : goal.returns-then-held_by-gt-MOST
unfolding well_formed
returns-then-held_by-gt-MOST c = let well : well_slots c.args.table.now ≡ true = row-slots _ _ c.requires c.sound_marks.ensures ∙ c.if-not-sound_marks.false in
    rw (well, ← c.held_by.ensures, lt-leb _ most c.if-held_by-gt-MOST.true)

pub held_by-requires-2 : goal.held_by-requires-2
held_by-requires-2 c = let well : well_slots c.args.table.now ≡ true = row-slots _ _ c.requires c.sound_marks.ensures ∙ c.if-not-sound_marks.false in
    slots-size _ well

pub returns : goal.returns
unfolding well_formed
returns c = let well : well_slots c.args.table.now ≡ true = row-slots _ _ c.requires c.sound_marks.ensures ∙ c.if-not-sound_marks.false in
    rw (well, ← c.held_by.ensures, le-leb _ most c.if-held_by-gt-MOST.false, ← c.held_by-2.ensures)
