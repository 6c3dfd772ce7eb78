-- `datum::step_by` meets its contract.
-- Assumes nothing.
use mathlib.Core.Path.{◌≡◌, sym, ◌∙◌, subst}
use mathlib.Core.Bool.{cond}
use Prim.Native.Nat.{◌*◌, ◌^◌}
use native.Mathlib.Omega.{arith}
use lib.IntN.{pos}
use Rattle.arith.specs.First.{first}
use Rattle.arith.proofs.Machine.{is-back}
use Rattle.arith.proofs.Order.{same-yes, same-no, fits-literal}
use Rattle.datum_formula.specs.Formula.{beyond_any, formula_tests, Answered}
use Rattle.datum_formula.proofs.Refusals.{refuses, numbered}
use Rattle.datum.specs.Step.{absent, values_in}
use Rattle.datum.proofs.step_by.Goals as goal

pub returns-then-beyond : goal.returns-then-beyond
returns-then-beyond c = let position : c.beyond.result ≡ beyond_any (10 ^ 11) c.args.x c.args.y c.args.z = c.beyond.ensures ∙ (λ i. beyond_any (10 ^ 11) (is-back c.ranges.x i) (is-back c.ranges.y i) (is-back c.ranges.z i)) in
    refuses c.refused.ensures (λ e. omega arith) (rw (sym position ∙ c.if-beyond.true))

pub returns-then-computation-ne0 : goal.returns-then-computation-ne0
returns-then-computation-ne0 c = let position : c.beyond.result ≡ beyond_any (10 ^ 11) c.args.x c.args.y c.args.z = c.beyond.ensures ∙ (λ i. beyond_any (10 ^ 11) (is-back c.ranges.x i) (is-back c.ranges.y i) (is-back c.ranges.z i)) in
    refuses c.refused-then-computation-ne0.ensures (λ e. omega arith)
    (rw (
      sym position ∙ c.if-beyond.false,
      same-no c.args.computation (pos 0) c.ranges.computation (fits-literal tt) c.if-computation-ne0.true,
    ))

pub returns : goal.returns
returns c = let position : c.beyond.result ≡ beyond_any (10 ^ 11) c.args.x c.args.y c.args.z = c.beyond.ensures ∙ (λ i. beyond_any (10 ^ 11) (is-back c.ranges.x i) (is-back c.ranges.y i) (is-back c.ranges.z i)) in
    let a = c.args in
    let f = c.ranges in
    numbered
    (subst (λ (q : Type 0). q)
    (λ i. Answered (521 * 10 ^ 32) (cond (absent a.p) 15 (first (formula_tests (values_in a.p) (is-back f.x i) (is-back f.y i) (is-back f.z i)))) (values_in a.p) (is-back f.x i) (is-back f.y i) (is-back f.z i) c.by_values.result)
    c.by_values.ensures)
    (rw (
      sym position ∙ c.if-beyond.false,
      same-yes a.computation (pos 0) f.computation (fits-literal tt) c.if-computation-ne0.false,
    ))
