-- `table::checked_marks` meets its contract: the two cases of the definition.
-- Assumes nothing.
use mathlib.Core.Path.{sym, ◌∙◌}
use Rattle.table.specs.Inner.{checked_marks}
use Rattle.table.proofs.checked_marks.Goals as goal

pub returns-then-sound : goal.returns-then-sound
unfolding checked_marks
returns-then-sound c = rw (sym c.sound.ensures ∙ c.if-sound.true, c.table_marks-row.ensures)

pub returns : goal.returns
unfolding checked_marks
returns c = rw (sym c.sound.ensures ∙ c.if-sound.false)
