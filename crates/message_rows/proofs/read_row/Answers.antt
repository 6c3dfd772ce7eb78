-- `message_rows::read_row` meets its contract.
-- Assumes nothing.
use Rattle.arith.specs.Refusals.{outcome_number}
use Rattle.arith.proofs.Numbers.{passed, refused}
use native.Mathlib.Omega.{arith}
use mathlib.Core.Path.{sym, ◌∙◌, ◌≡◌, ap}
use Rattle.message_rows.proofs.Head.{counted-low, counted-layout, refused-head}
use Rattle.message_rows.proofs.Rows.{row-refused, row_read}
use Rattle.message_rows.specs.Private.{Counted}
use borrow.Author.Rules.{rules}
use Rattle.message_rows.proofs.read_row.Goals as goal

pub returns-in_err-head_refusal : goal.returns-in_err-head_refusal
returns-in_err-head_refusal c = let same : c.from_residual.result ≡ c.head_refusal.result = search rules in
    let a = c.args in let p = row-refused a.s.now a.values.now a.present.now _ (refused-head a.s.now _ c.head_refusal.ensures (refused c.in_err-head_refusal.was)) (refused c.in_err-head_refusal.was) in record { answer = ap outcome_number same ∙ p.0; values = p.1.0; present = p.1.1 }

pub target_of-m-requires : goal.target_of-m-requires
target_of-m-requires c = let s = c.args.s.now in
    omega (arith, c.source_of-n.ensures, counted-low s c.field_at-number.result 12)

pub returns : goal.returns
returns c = let a = c.args in
    let h = sym c.head_refusal.ensures ∙ passed c.in_ok-head_refusal.was in
    let k : Counted a.s.now c.field_at-number.result c.source_of-n.result c.target_of-m.result = record { number = c.field_at-number.ensures; source = c.source_of-n.ensures; target = c.target_of-m.ensures } in let d = c.decode_by.ensures in
    let p = row_read a.s.now a.values.now a.present.now h (counted-layout a.s.now h k) (d.answer, (d.values, d.present)) in record { answer = p.0; values = p.1.0; present = p.1.1 }

pub head_refusal-requires : goal.head_refusal-requires
head_refusal-requires c = (c.field_at-number.ensures, c.source_of-n.ensures)
