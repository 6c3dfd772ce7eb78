-- `table_slots::mark_of` meets its contract: the mark of a slot of the table, none elsewhere.
-- Assumes nothing.
use mathlib.Core.Path.{sym, ◌∙◌}
use Rattle.table_slots.specs.Inner.{mark_at}
use Rattle.table_slots.proofs.Marks.{mark_of, mark-behind, mark-other}
use Rattle.table_slots.proofs.mark_of.Goals as goal

pub returns-then-table-ne-TABLE_SIZE : goal.returns-then-table-ne-TABLE_SIZE
returns-then-table-ne-TABLE_SIZE c = sym (mark-other _ _ c.if-table-ne-TABLE_SIZE.true)

pub returns-then-i-ge-SLOTS : goal.returns-then-i-ge-SLOTS
returns-then-i-ge-SLOTS c = sym (mark-behind _ c.if-table-ne-TABLE_SIZE.false _ c.if-i-ge-SLOTS.true)

pub returns : goal.returns
unfolding mark_at
returns c = c.mark_at.ensures ∙ sym (mark_of _ c.if-table-ne-TABLE_SIZE.false _ c.if-i-ge-SLOTS.false)
