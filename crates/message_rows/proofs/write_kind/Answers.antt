-- `message_rows::write_kind` meets its contract: each return is a case of the definition.
-- Assumes nothing.
use borrow.Author.Tests.{not-true, not-false}
use lib.ListN.{length}
use Rattle.layout.specs.Layout.{row_of}
use Rattle.layout.proofs.Answer.{refused-write}
use Rattle.message_rows.specs.Message.{message}
use Rattle.message_rows.proofs.OneKindWritten.{record-bad, record-low, record-high, record-row}
use borrow.Author.Rules.{rules}
use Rattle.message_rows.proofs.write_kind.Goals as goal

pub returns-then-not-good : goal.returns-then-not-good
returns-then-not-good c = let a = c.args in let p = refused-write _ 4 (message (row_of a.values.now a.present.now)) a.out.now
    (record-bad a.lo a.hi a.values.now a.present.now (length a.out.now) a.good (c.if-not-good.true)) in record { answer = p.0; output = p.1 }

pub returns-then-number-lo : goal.returns-then-number-lo
returns-then-number-lo c = let a = c.args in let p = refused-write _ 4 (message (row_of a.values.now a.present.now)) a.out.now
    (record-low a.lo a.hi a.values.now a.present.now (length a.out.now) a.good (c.if-not-good.false)
    (rw c.natural_at-number.ensures at c.if-number-lo.true)) in record { answer = p.0; output = p.1 }

pub returns-then-hi-number : goal.returns-then-hi-number
returns-then-hi-number c = let a = c.args in
    let n = c.natural_at-number.ensures in let p = refused-write _ 4 (message (row_of a.values.now a.present.now)) a.out.now
    (record-high a.lo a.hi a.values.now a.present.now (length a.out.now) a.good (c.if-not-good.false)
    (rw n at c.if-number-lo.false) (rw n at c.if-hi-number.true)) in record { answer = p.0; output = p.1 }

pub returns : goal.returns
returns c = let a = c.args in
    let n = c.natural_at-number.ensures in
    let k = record-row a.lo a.hi a.values.now a.present.now (length a.out.now) a.good (c.if-not-good.false)
    (rw n at c.if-number-lo.false) (rw n at c.if-hi-number.false) in let p = c.write_row.ensures in record { answer = rw (← k) p.answer; output = rw (← k) p.output }
