-- `layout_by_number::decode_after` meets its contract: each return is a case of the definition.
-- Assumes nothing.
use mathlib.Core.Path.{◌≡◌, ap, ◌∙◌}
use Rattle.arith.specs.Refusals.{outcome_number}
use Rattle.arith.proofs.Numbers as number
use Rattle.layout_by_number.proofs.Checked.{refused, few-places, few_bytes, all_read}
use borrow.Author.Rules.{rules}
use Rattle.layout_by_number.proofs.decode_after.Goals as goal

pub returns-in_err-checked : goal.returns-in_err-checked
returns-in_err-checked c = let a = c.args in
    let same : c.from_residual.result ≡ a.checked = search rules in
    let p = refused (outcome_number a.checked) a.layout.now a.s.now a.values.now a.present.now (number.refused c.in_err-checked.was) in record { answer = ap outcome_number same ∙ p.0; values = p.1.0; present = p.1.1 }

pub returns-then-values-layout : goal.returns-then-values-layout
returns-then-values-layout c = let a = c.args in let p = few-places (outcome_number a.checked) a.layout.now a.s.now a.values.now a.present.now (number.passed c.in_ok-checked.was) c.if-values-layout.true in record { answer = p.0; values = p.1.0; present = p.1.1 }

pub returns-then-present-layout : goal.returns-then-present-layout
returns-then-present-layout c = let a = c.args in let p = few_bytes (outcome_number a.checked) a.layout.now a.s.now a.values.now a.present.now (number.passed c.in_ok-checked.was) c.if-values-layout.false c.if-present-layout.true in record { answer = p.0; values = p.1.0; present = p.1.1 }

pub returns : goal.returns
returns c = let a = c.args in
    let t = all_read (outcome_number a.checked) a.layout.now a.s.now a.values.now a.present.now (number.passed c.in_ok-checked.was) c.if-values-layout.false c.if-present-layout.false in record { answer = t.0; values = c.read.ensures.values ∙ t.1.0; present = c.read.ensures.present ∙ t.1.1 }
