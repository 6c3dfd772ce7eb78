-- `message_records::write_record` meets its contract: the row as its kind's writer is given it, or none.
-- Assumes nothing.
use Rattle.std.proofs.Common.{◌∙◌, ap}
use Rattle.message_rows.specs.Message.{Outcome}
use Rattle.message_records.proofs.RecordNumbers.{of_row, of_none}
use Rattle.message_records.proofs.write_record.Goals as goal

pub returns-in-Some : goal.returns-in-Some
returns-in-Some g c = let w = of_row c.FIRST.ensures c.LAST.ensures _ _ c.args.out.now c.in-Some.row c.in-Some.ensures c.values.ensures c.present.ensures in
    record { answer = c.write_kind.ensures.answer ∙ ap (λ (o : Outcome). o.answer) w; output = c.write_kind.ensures.output ∙ ap (λ (o : Outcome). o.output) w }

pub returns-in-None : goal.returns-in-None
returns-in-None g c = let w = of_none c.FIRST-in-None.ensures c.LAST-in-None.ensures _ _ c.args.out.now c.in-None.ensures in
    record { answer = c.write_kind-in-None.ensures.answer ∙ ap (λ (o : Outcome). o.answer) w; output = c.write_kind-in-None.ensures.output ∙ ap (λ (o : Outcome). o.output) w }
