-- `message_rows::read_kind` meets its contract: a refusal of the message or its kind, or what any row is read to.
-- Assumes nothing.
use mathlib.Core.Path.{◌≡◌, sym, ◌∙◌}
use native.Mathlib.Omega.{arith}
use Rattle.arith.specs.Refusals.{outcome_number}
use lib.ListN.{length}
use Rattle.layout.proofs.Answer.{refused-read}
use Rattle.record_rows.specs.Numbers.{values_of, present_of}
use Rattle.message_rows.specs.Message.{row}
use Rattle.message_rows.proofs.OneKind.{kind-kept, kind-numbered, kind-other}
use borrow.Author.Rules.{rules}
use Rattle.message_rows.proofs.read_kind.Goals as goal

pub returns-then-kind-lo : goal.returns-then-kind-lo
returns-then-kind-lo c = let a = c.args in
    let s = a.s.now in
    let f : outcome_number c.check_kind.result ≡ 0 → ⊥ = λ z. kind-other a.lo a.hi s c.field_at-kind.ensures (λ l h. omega arith) (sym c.check_kind.ensures ∙ z) in let p = refused-read _ _ (values_of (row s)) a.values.now (present_of (row s)) a.present.now
    (kind-kept a.lo a.hi s (length a.values.now) (length a.present.now) _ c.check_kind.ensures f) f in record { answer = p.0; values = p.1.0; present = p.1.1 }

pub returns-then-hi-kind : goal.returns-then-hi-kind
returns-then-hi-kind c = let a = c.args in
    let s = a.s.now in
    let f : outcome_number c.check_kind-then-hi-kind.result ≡ 0 → ⊥ = λ z. kind-other a.lo a.hi s c.field_at-kind.ensures (λ l h. omega arith) (sym c.check_kind-then-hi-kind.ensures ∙ z) in let p = refused-read _ _ (values_of (row s)) a.values.now (present_of (row s)) a.present.now
    (kind-kept a.lo a.hi s (length a.values.now) (length a.present.now) _ c.check_kind-then-hi-kind.ensures f) f in record { answer = p.0; values = p.1.0; present = p.1.1 }

pub returns : goal.returns
returns c = let a = c.args in let p = c.read_row.ensures in
    let k = kind-numbered a.lo a.hi a.s.now (length a.values.now) (length a.present.now) c.field_at-kind.ensures (omega arith) (omega arith) in record { answer = rw (← k) p.answer; values = rw (← k) p.values; present = rw (← k) p.present }
