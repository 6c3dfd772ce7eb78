-- `text_words::place` meets its contract. The invariant: the place is that many words on; the measure is the number of bytes that are left.
-- Assumes nothing.
use native.Mathlib.Omega.{arith}
use mathlib.Core.Path.{sym, ap, ◌∙◌}
use Rattle.text_words.specs.Inner.{word, words, place_in}
use Rattle.text_words.specs.Words.{same}
use Rattle.text_words.proofs.Laws.{place_end, place_here, place-on, next_past}
use Rattle.text_words.proofs.place.Goals as goal

pub returns-then-same : goal.returns-then-same
returns-then-same c = let a = c.args in
    let l = c.loop-from in
    let h = c.loop-from-test.true in
    let e = sym (c.same.ensures ∙ ap (λ w. same w a.s.now) (c.word.ensures ∙ ap word c.behind.ensures)) ∙ c.if-same.true in
    omega (arith, l.invariant, place_here a.s.now a.line.now l.from h e)

pub loop-from-smaller : goal.loop-from-smaller
loop-from-smaller c = let a = c.args in
    let l = c.loop-from in
    omega (arith, next_past a.line.now l.from c.next-from.result c.loop-from-test.true c.next-from.ensures)

pub loop-from-preserved : goal.loop-from-preserved
loop-from-preserved c = let a = c.args in
    let l = c.loop-from in
    let h = c.loop-from-test.true in
    let e = sym (c.same.ensures ∙ ap (λ w. same w a.s.now) (c.word.ensures ∙ ap word c.behind.ensures)) ∙ c.if-same.false in
    let n = ap (λ t. place_in a.s.now (words t)) c.next-from.ensures.behind in
    let p = next_past a.line.now l.from c.next-from.result h c.next-from.ensures in
    (omega (arith, l.invariant), omega (arith, l.invariant, n, place-on a.s.now a.line.now l.from h e))

pub returns : goal.returns
returns c = let a = c.args in
    let l = c.loop-from in
    omega (arith, l.invariant, place_end a.s.now a.line.now l.from (omega arith))
