-- `frame::find_frame` meets its contract: the answer from a place passed is the answer from the next.
-- Assumes nothing.
use mathlib.Core.Path.{◌≡◌, sym, ap, ◌∙◌}
use native.Mathlib.Omega.{arith}
use Rattle.frame.specs.Private.{frame_at}
use Rattle.frame.proofs.At.{rest, over, stops, goes_on}
use Rattle.frame.proofs.find_frame.Goals as goal

pub returns-then-f-ne-NOFRAME : goal.returns-then-f-ne-NOFRAME
returns-then-f-ne-NOFRAME c = let s = c.args.bytes.now in
    let l = c.loop-i in
    let f = c.frame_at-f.ensures ∙ ap (λ t. frame_at t l.i) (rest s l.i) in
    f ∙ stops s l.i (omega arith) (λ e. omega (arith, ap (λ x. x.refusal) f ∙ e, c.if-f-ne-NOFRAME.true)) ∙ l.invariant

pub loop-i-preserved : goal.loop-i-preserved
loop-i-preserved c = let s = c.args.bytes.now in
    let l = c.loop-i in
    let f = c.frame_at-f.ensures ∙ ap (λ t. frame_at t l.i) (rest s l.i) in
    let e : c.frame_at-f.result.refusal ≡ 20 = omega (arith, c.if-f-ne-NOFRAME.false) in
    sym (goes_on s l.i (omega arith) (sym (ap (λ x. x.refusal) f) ∙ e)) ∙ l.invariant

pub returns : goal.returns
returns c = let s = c.args.bytes.now in
    let l = c.loop-i in
    c.no_frame.ensures ∙ sym (over s l.i c.loop-i-test.false) ∙ l.invariant
