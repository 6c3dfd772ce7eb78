-- By whether the text begins with a minus sign.
use Rattle.std.proofs.Common.{rules, ◌≡◌, sym, ap, ◌∙◌, None}
use Rattle.text_numerals.specs.Inner.{natural, positive, negative}
use Rattle.text_numerals.proofs.Reading.{whole_negative, whole_positive}
use Rattle.text_numerals.proofs.whole.Goals as goal

pub returns-in_err-natural-in-Some : goal.returns-in_err-natural-in-Some
unfolding negative
returns-in_err-natural-in-Some c =
    let none : c.from_residual.result ≡ None = search rules in
    let h = c.in-Some.ensures.cases in
    none ∙ sym (whole_negative c.args.s.now h.0 ∙ ap negative (ap natural (sym h.1) ∙ sym c.natural.ensures ∙ c.in_err-natural-in-Some.was))

pub returns-in_err-natural-in-None : goal.returns-in_err-natural-in-None
unfolding positive
returns-in_err-natural-in-None c =
    let none : c.from_residual-in_err-natural-in-None.result ≡ None = search rules in
    none ∙ sym (whole_positive c.args.s.now c.in-None.ensures.cases ∙ ap positive (sym c.natural-in-None.ensures ∙ c.in_err-natural-in-None.was))

pub returns-in_ok-natural-in-Some : goal.returns-in_ok-natural-in-Some
returns-in_ok-natural-in-Some c =
    let h = c.in-Some.ensures.cases in
    c.negative.ensures ∙ sym (whole_negative c.args.s.now h.0 ∙ ap negative (ap natural (sym h.1) ∙ sym c.natural.ensures ∙ c.in_ok-natural-in-Some.was))

pub returns-in_ok-natural-in-None : goal.returns-in_ok-natural-in-None
returns-in_ok-natural-in-None c =
    c.positive.ensures ∙ sym (whole_positive c.args.s.now c.in-None.ensures.cases ∙ ap positive (sym c.natural-in-None.ensures ∙ c.in_ok-natural-in-None.was))
