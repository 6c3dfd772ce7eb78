-- `message_rows::row_held` meets its contract: each return is a case of the definition.
-- Assumes nothing.
use native.Mathlib.Omega.{arith}
use borrow.Author.Tests.{lt-leb, le-leb}
use Rattle.layout.specs.Layout.{row_of}
use Rattle.record_rows.specs.Numbers.{says}
use Rattle.record_rows.proofs.Rows.{counter-most}
use Rattle.message_rows.specs.Message.{row_held}
use Rattle.message_rows.proofs.RowsWritten.{row-layout-by, row-held-by}
use borrow.Author.Rules.{rules}
use Rattle.message_rows.proofs.row_held.Goals as goal

pub returns-then-number-lo : goal.returns-then-number-lo
unfolding row_held
returns-then-number-lo c = rw (← c.natural_at-number.ensures, lt-leb _ _ c.if-number-lo.true)

pub returns-then-hi-number : goal.returns-then-hi-number
unfolding row_held
returns-then-hi-number c = rw (← c.natural_at-number.ensures, le-leb _ _ c.if-number-lo.false, lt-leb _ _ c.if-hi-number.true)

pub returns : goal.returns
returns c = let a = c.args in
    let n = c.natural_at-number.ensures in
    let l = row-layout-by (row_of a.values.now a.present.now) n c.counter_at-n.ensures.value c.counter_at-m.ensures.value in
    row-held-by a.lo a.hi a.values.now a.present.now n c.if-number-lo.false c.if-hi-number.false l c.taken_by.ensures
