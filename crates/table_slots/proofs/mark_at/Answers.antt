-- `table_slots::mark_at` meets its contract: the part it reads is the slot.
-- Assumes nothing.
use mathlib.Core.Path.{ap, ◌∙◌}
use Rattle.table_slots.specs.Inner.{mark, mark_at}
use Rattle.table_slots.proofs.Slot.{part-slot}
use Rattle.table_slots.proofs.mark_at.Goals as goal

pub returns : goal.returns
unfolding mark_at
returns c = c.slot_mark.ensures ∙ ap mark (part-slot c.args.table.now c.args.i)
