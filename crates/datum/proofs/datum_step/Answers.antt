-- `datum::datum_step` meets its contract: what the reader promises, and its law that the parameters are within their widths.
-- Assumes nothing.
use mathlib.Core.Path.{◌≡◌, sym, ap, ◌∙◌, subst}
use mathlib.Core.List.{List}
use Prim.Native.Nat.{ℕ, ◌*◌, ◌^◌}
use borrow.Author.Rules.{rules}
use mir.Syntax.{w64}
use mir.Val.{of_z, to_z}
use Rattle.arith.specs.Refusals.{outcome_number}
use Rattle.arith.proofs.Numbers.{passed, refused}
use Rattle.arith.proofs.Back.{held}
use Rattle.arith.proofs.Machine.{is-back}
use Rattle.record_transformations.specs.declared.Helmert.{Helmert}
use Rattle.message_records.specs.Kinds.{read_helmert}
use Rattle.datum_formula.specs.Formula.{Answered}
use Rattle.datum_formula.proofs.Refusals.{refuses, numbered, answered-wider}
use Rattle.datum.specs.Step.{values_in}
use Rattle.datum.specs.Private.{step_by}
use Rattle.datum.proofs.Refusals.{reading-stops, reading-passed}
use Rattle.datum.proofs.datum_step.Goals as goal

pub returns-in-Err : goal.returns-in-Err
returns-in-Err c = let m : List ℕ = c.args.message.now in
    let read : outcome_number c.read_record.result ≡ (read_helmert m).refusal = unfold read_helmert in c.read_record.ensures.refused in
    let given : outcome_number c.read_record.result ≡ c.number_of.result = ap outcome_number c.in-Err.is ∙ sym c.number_of.ensures in
    let some : c.number_of.result ≡ 0 → ⊥ = λ z. refused c.in-Err.is (given ∙ z) in
    let a = c.args in
    refuses c.refused.ensures some (reading-stops m a.x a.y a.z (sym given ∙ read) some)

pub returns-in-Ok : goal.returns-in-Ok
returns-in-Ok c = let m : List ℕ = c.args.message.now in
    let known : outcome_number c.read_record.result ≡ (read_helmert m).refusal = unfold read_helmert in c.read_record.ensures.refused in
    let none : (read_helmert m).refusal ≡ 0 = sym known ∙ passed c.in-Ok.is in
    let read : c.in-Ok.h ≡ (read_helmert m).value = unfold read_helmert in c.in-Ok.ensures.value in
    let computation : to_z w64 (of_z w64 c.in-Ok.h.system.computation) ≡ (read_helmert m).value.system.computation = held c.in-Ok.h.system.computation (search rules) ∙ ap (λ (h : Helmert). h.system.computation) read in
    let a = c.args in
    let f = c.ranges in
    numbered
    (answered-wider (10 ^ 35) tt
    (subst (λ (q : Type 0). q)
    (λ i. Answered (521 * 10 ^ 32) (step_by (computation i) (read i).parameters (is-back f.x i) (is-back f.y i) (is-back f.z i)) (values_in (read i).parameters) (is-back f.x i) (is-back f.y i) (is-back f.z i) c.step_by.result)
    c.step_by.ensures))
    (reading-passed m a.x a.y a.z none)
