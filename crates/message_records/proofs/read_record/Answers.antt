-- `message_records::read_record` meets its contract.
-- Assumes nothing.
use Rattle.std.proofs.Common.{rules, ◌≡◌, sym, ◌∙◌}
use Rattle.arith.specs.Refusals.{outcome_number}
use Rattle.arith.proofs.Numbers.{passed}
use Rattle.message_records.proofs.RecordNumbers.{read-refusal, read-record}
use Rattle.message_records.proofs.read_record.Goals as goal

pub returns-in_err-read_kind : goal.returns-in_err-read_kind
returns-in_err-read_kind g c = let R = g.R.Record in
    let s = c.args.s.now in
    let k = rw (c.FIRST.ensures, c.LAST.ensures) at c.read_kind.ensures.answer in
    let same : outcome_number c.from_residual.result ≡ outcome_number c.read_kind.result = search rules in
    record { refused = same ∙ read-refusal R.FIRST R.LAST s k; value = search rules }

pub returns : goal.returns
returns g c = let R = g.R.Record in
    let s = c.args.s.now in
    let k = rw (c.FIRST.ensures, c.LAST.ensures) at c.read_kind.ensures in
    record {
      refused = sym (passed c.in_ok-read_kind.was) ∙ read-refusal R.FIRST R.LAST s k.answer;
      value = c.of_row.ensures ∙ read-record R.FIRST R.LAST s R.made k.values k.present;
    }
