-- `message_rows::check_counted` meets its contract.
-- Assumes nothing.
use Rattle.arith.specs.Refusals.{outcome_number}
use Rattle.arith.proofs.Numbers.{passed, refused}
use Prim.Native.Nat.{ℕ}
use mathlib.Core.Path.{sym, ap, ◌∙◌, ◌≡◌}
use mathlib.Core.List.{List}
use Rattle.layout.specs.Inner.{refusal_of}
use Rattle.message_rows.proofs.Head.{counted-layout, refused-head, head_passed}
use borrow.Author.Rules.{rules}
use Rattle.message_rows.proofs.check_counted.Goals as goal

pub returns-in_err-head_refusal : goal.returns-in_err-head_refusal
returns-in_err-head_refusal c = let same : c.from_residual.result ≡ c.head_refusal.result = search rules in
    ap outcome_number same ∙ (refused-head c.args.s.now _ c.head_refusal.ensures (refused c.in_err-head_refusal.was))

pub returns : goal.returns
returns c = let s = c.args.s.now in
    let h = sym c.head_refusal.ensures ∙ passed c.in_ok-head_refusal.was in
    c.check_by.ensures ∙ ap (λ (es : List ℕ). refusal_of es s) (counted-layout s h c.requires) ∙ sym (head_passed s h)

pub head_refusal-requires : goal.head_refusal-requires
head_refusal-requires c = (c.requires.number, c.requires.source)
