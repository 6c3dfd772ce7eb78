-- `table_slots::table_marks` meets its contract: each place has the mark of its slot.
-- Assumes nothing.
use Rattle.std.proofs.Common.{rules, length}
use borrow.Author.Tests.{eq-eqb, ne_eqb}
use Rattle.arith.proofs.Lists.{is-up_to}
use Rattle.table_slots.specs.Slots.{slots, table_size}
use Rattle.table_slots.specs.Inner.{mark_at, marks}
use Rattle.table_slots.proofs.table_marks.Goals as goal

pub returns-then-table-ne-TABLE_SIZE : goal.returns-then-table-ne-TABLE_SIZE
unfolding marks
returns-then-table-ne-TABLE_SIZE c = rw (ne_eqb _ table_size c.if-table-ne-TABLE_SIZE.true)

pub returns : goal.returns
unfolding marks
returns c = let t = c.args.table.now in
    rw (eq-eqb (length t) table_size c.if-table-ne-TABLE_SIZE.false)
    (is-up_to (mark_at t) slots 0 c.from_fn.result c.from_fn.ensures.items.long (λ i h. let k = (c.from_fn.ensures.items.at i 0 h).2 in search rules))
