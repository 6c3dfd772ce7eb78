-- The digits that are left stand before those stored.
use Rattle.std.proofs.Common.{◌≡◌, ◌+◌, ◌-◌, ◌++◌, drop, arith, sym, ap, ◌∙◌}
use Rattle.text_numerals.specs.Inner.{digits_of}
use Rattle.text_numerals.proofs.Writing.{digits-start, digits_last, digits-on, digits-none}
use Rattle.text_numerals.proofs.digits.Goals as goal

pub loop-done-init : goal.loop-done-init
loop-done-init c = digits-start c.args.n c.args.text.now c.requires

pub returns-then-rest-lt10-clause-output : goal.returns-then-rest-lt10-clause-output
returns-then-rest-lt10-clause-output c = let l = c.loop-done in
    sym (l.invariant ∙ digits_last l.text (20 - l.done) (20 - l.done - 1) l.rest (omega arith) (omega (arith, c.requires, l.auto.text)) c.if-rest-lt10.true)

pub loop-done-preserved : goal.loop-done-preserved
loop-done-preserved c = let l = c.loop-done in
    l.invariant ∙ digits-on l.text (20 - l.done) (20 - (l.done + 1)) l.rest (omega arith) (omega (arith, c.requires, l.auto.text)) c.if-rest-lt10.false

pub returns-clause-output : goal.returns-clause-output
returns-clause-output c = let l = c.loop-done in
    let q : 20 - l.done ≡ 0 = omega arith in
    sym (l.invariant ∙ ap (λ k. digits_of k l.rest ++ drop (k + 1) l.text) q ∙ digits-none 0 _ _ (omega arith))
