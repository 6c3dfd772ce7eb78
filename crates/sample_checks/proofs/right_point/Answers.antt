-- `sample_checks::right_point` meets its contract: the answer is the message's at the point, and the bits of the counts are compared.
-- Assumes nothing.
use mathlib.Core.Path.{◌≡◌, ◌∙◌}
use mathlib.Core.Bool.{◌&&◌}
use lib.Dec.{eqb}
use native.Mathlib.Omega.{arith}
use borrow.Author.Tests.{eq-eqb, ne_eqb}
use Rattle.arith.specs.Whole.{same_z}
use Rattle.arith.proofs.Back.{held}
use Rattle.grid_shifts.specs.Shift.{message_shift}
use Rattle.grid_component.specs.Component.{counted}
use Rattle.grid_component.specs.Inner.{counted_by}
use Rattle.grid_component.proofs.Counts.{counted_is}
use Rattle.sample_checks.specs.Check.{right}
use Rattle.sample_checks.proofs.Checks.{same_test}
use Rattle.sample_checks.proofs.right_point.Goals as goal

pub returns-else-answer-eq0 : goal.returns-else-answer-eq0
unfolding right
returns-else-answer-eq0 c = let answer : c.count_at-answer.result ≡ counted (message_shift c.args.message.now c.args.p.component c.args.p.north c.args.p.east) =
    c.count_at-answer.ensures
    ∙ (λ i. counted_by c.args.message.now (c.requires i) c.args.p.component (held c.args.p.north (omega arith) i) (held c.args.p.east (omega arith) i))
    ∙ counted_is c.args.message.now c.args.p.component c.args.p.north c.args.p.east in
    let tested : (eqb c.count_at-answer.result.refusal 0 && same_z c.count_at-answer.result.count c.args.p.claim) ≡ right c.args.message.now c.args.p = λ i. eqb (answer i).refusal 0 && same_z (answer i).count c.args.p.claim in
    ne_eqb _ _ c.if-answer-eq0.false ∙ rw (ne_eqb _ _ c.if-answer-eq0.false) at tested

pub returns-then-answer-eq0 : goal.returns-then-answer-eq0
unfolding right
returns-then-answer-eq0 c = let answer : c.count_at-answer.result ≡ counted (message_shift c.args.message.now c.args.p.component c.args.p.north c.args.p.east) =
    c.count_at-answer.ensures
    ∙ (λ i. counted_by c.args.message.now (c.requires i) c.args.p.component (held c.args.p.north (omega arith) i) (held c.args.p.east (omega arith) i))
    ∙ counted_is c.args.message.now c.args.p.component c.args.p.north c.args.p.east in
    let tested : (eqb c.count_at-answer.result.refusal 0 && same_z c.count_at-answer.result.count c.args.p.claim) ≡ right c.args.message.now c.args.p = λ i. eqb (answer i).refusal 0 && same_z (answer i).count c.args.p.claim in
    same_test c.count_at-answer.result.count c.args.p.claim (omega arith) (omega arith)
    ∙ rw (eq-eqb _ _ c.if-answer-eq0.true) at tested
