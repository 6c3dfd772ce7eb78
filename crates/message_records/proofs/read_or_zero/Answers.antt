-- `message_records::read_or_zero` meets its contract.
-- Assumes nothing.
use Rattle.std.proofs.Common.{sym, ap, ◌∙◌}
use Rattle.arith.specs.Refusals.{outcome_number}
use Rattle.arith.proofs.Numbers.{passed, refused}
use Rattle.message_records.proofs.RecordNumbers.{refused-record}
use Rattle.message_records.proofs.read_or_zero.Goals as goal

pub returns-in-Ok : goal.returns-in-Ok
returns-in-Ok g c = record { refusal = sym (passed c.in-Ok.is) ∙ c.read_record.ensures.refused; value = c.in-Ok.ensures.value }

pub returns-in-Err : goal.returns-in-Err
returns-in-Err g c = let R = g.R.Record in
    let s = c.args.s.now in
    let given = c.number_of.ensures ∙ sym (ap outcome_number c.in-Err.is) ∙ c.read_record.ensures.refused in
    record { refusal = given; value = c.of_row.ensures ∙ refused-record R.FIRST R.LAST s R.made (λ z. refused c.in-Err.is (c.read_record.ensures.refused ∙ z)) }
