-- `message_rows::check_kind` meets its contract: each return is a case of the definition.
-- Assumes nothing.
use Rattle.arith.specs.Refusals.{outcome_number}
use Rattle.arith.proofs.Numbers.{passed, refused}
use mathlib.Core.Path.{sym, ◌∙◌, ◌≡◌, ap}
use Rattle.message_rows.proofs.Head.{number_read, head_of, accepted-head}
use Rattle.message_rows.proofs.OneKind.{kind-refused, kind-low, kind-high, kind-read}
use borrow.Author.Rules.{rules}
use Rattle.message_rows.proofs.check_kind.Goals as goal

pub returns-in_err-check_numbered : goal.returns-in_err-check_numbered
returns-in_err-check_numbered c = let same : c.from_residual.result ≡ c.check_numbered.result = search rules in
    ap outcome_number same ∙ (let a = c.args in (kind-refused a.lo a.hi a.s.now _ c.check_numbered.ensures (refused c.in_err-check_numbered.was)).0)

pub returns-then-number-lo : goal.returns-then-number-lo
returns-then-number-lo c = let a = c.args in
    let e = sym c.check_numbered.ensures ∙ passed c.in_ok-check_numbered.was in
    let n = c.field_at-number.ensures ∙ number_read a.s.now (head_of a.s.now (accepted-head a.s.now e)).long in
    (kind-low a.lo a.hi a.s.now e (rw n at c.if-number-lo.true)).0

pub returns-then-hi-number : goal.returns-then-hi-number
returns-then-hi-number c = let a = c.args in
    let e = sym c.check_numbered.ensures ∙ passed c.in_ok-check_numbered.was in
    let n = c.field_at-number.ensures ∙ number_read a.s.now (head_of a.s.now (accepted-head a.s.now e)).long in
    (kind-high a.lo a.hi a.s.now e (rw n at c.if-number-lo.false) (rw n at c.if-hi-number.true)).0

pub returns : goal.returns
returns c = let a = c.args in
    let e = sym c.check_numbered.ensures ∙ passed c.in_ok-check_numbered.was in
    let n = c.field_at-number.ensures ∙ number_read a.s.now (head_of a.s.now (accepted-head a.s.now e)).long in
    (kind-read a.lo a.hi a.s.now e (rw n at c.if-number-lo.false) (rw n at c.if-hi-number.false)).0

pub check_numbered-requires : goal.check_numbered-requires
check_numbered-requires c = c.field_at-number.ensures
