-- `message_rows::write_row` meets its contract: each return is a case of the definition.
-- Assumes nothing.
use native.Mathlib.Omega.{arith}
use Rattle.layout.specs.Layout.{row_of}
use Rattle.layout.proofs.Answer.{refused-write}
use Rattle.record_rows.specs.Numbers.{says}
use Rattle.record_rows.proofs.Rows.{counter-most}
use Rattle.message_rows.specs.Message.{message}
use Rattle.message_rows.proofs.RowsWritten.{row-layout-by, write_low, write-high, row-written-by}
use borrow.Author.Rules.{rules}
use Rattle.message_rows.proofs.write_row.Goals as goal

pub returns-then-number-lt1021 : goal.returns-then-number-lt1021
returns-then-number-lt1021 c = let a = c.args in let p = refused-write _ 4 (message (row_of a.values.now a.present.now)) a.out.now
    (write_low a.values.now a.present.now a.out.now (rw c.natural_at-number.ensures at c.if-number-lt1021.true)) in record { answer = p.0; output = p.1 }

pub returns-then-number-gt1027 : goal.returns-then-number-gt1027
returns-then-number-gt1027 c = let a = c.args in
    let n = c.natural_at-number.ensures in let p = refused-write _ 4 (message (row_of a.values.now a.present.now)) a.out.now
    (write-high a.values.now a.present.now a.out.now (rw n at c.if-number-lt1021.false) (rw n at c.if-number-gt1027.true)) in record { answer = p.0; output = p.1 }

pub returns : goal.returns
returns c = let a = c.args in
    let n = c.natural_at-number.ensures in
    let l = row-layout-by (row_of a.values.now a.present.now) n c.counter_at-n.ensures.value c.counter_at-m.ensures.value in let d = c.encode_by.ensures in
    let p = row-written-by a.values.now a.present.now a.out.now (rw n at c.if-number-lt1021.false) (rw n at c.if-number-gt1027.false) l (d.answer, d.output) in record { answer = p.0; output = p.1 }
