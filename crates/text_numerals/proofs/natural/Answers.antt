-- What is left of the digits spells the whole behind n; a digit more may make the number too large.
use Rattle.std.proofs.Common.{rules, ◌≡◌, ◌+◌, ◌*◌, drop, length, arith, sym, ap, ◌∙◌, Some, None}
use borrow.Author.Tests.{tests}
use lib.ListN.{get_or}
use Rattle.text_numerals.specs.Inner.{spelled, digit}
use Rattle.text_numerals.proofs.Reading.{digits-end, digits-bad, digits-on, spelled-end, spelled-on, spelled-least, natural-none, natural-bad, natural-large, natural-is}
use Rattle.text_numerals.proofs.natural.Goals as goal

pub returns-then-is_empty : goal.returns-then-is_empty
returns-then-is_empty c = let z : length c.args.s.now ≡ 0 = search (rules, tests) in sym (natural-none c.args.s.now z)

pub returns-then-d-gt9 : goal.returns-then-d-gt9
returns-then-d-gt9 c = let l = c.loop-b in
    sym (natural-bad c.args.s.now (l.invariant.digits ∙ digits-bad c.args.s.now l.b-index (omega arith) (omega (arith, c.digit-d.ensures))))

pub returns-in_err-checked_mul : goal.returns-in_err-checked_mul
returns-in_err-checked_mul c = let s = c.args.s.now in
    let l = c.loop-b in
    let d = digit (get_or s l.b-index 0) in
    let e = l.invariant.number ∙ spelled-on s l.b-index (omega arith) l.n in
    let none : c.from_residual.result ≡ None = search rules in
    none ∙ sym (natural-large s (omega (arith, e, c.in_err-checked_mul.ensures, spelled-least (l.n * 10 + d) (drop (l.b-index + 1) s))))

pub returns-in_err-n : goal.returns-in_err-n
returns-in_err-n c = let s = c.args.s.now in
    let l = c.loop-b in
    let d = digit (get_or s l.b-index 0) in
    let e = l.invariant.number ∙ spelled-on s l.b-index (omega arith) l.n in
    let none : c.from_residual-in_err-n.result ≡ None = search rules in
    none ∙ sym (natural-large s (omega (arith, e, c.digit-d.ensures, c.in_ok-checked_mul.ensures, c.in_err-n.ensures, spelled-least (l.n * 10 + d) (drop (l.b-index + 1) s))))

pub loop-b-preserved : goal.loop-b-preserved
loop-b-preserved c = let s = c.args.s.now in
    let l = c.loop-b in
    let n : l.n * 10 + digit (get_or s l.b-index 0) ≡ c.in_ok-n.n = omega (arith, c.digit-d.ensures, c.in_ok-checked_mul.ensures, c.in_ok-n.ensures) in
    record {
      in_range = omega (arith, c.in_ok-n.ensures);
      number = l.invariant.number ∙ spelled-on s l.b-index (omega arith) l.n ∙ ap (λ x. spelled x (drop (l.b-index + 1) s)) n;
      digits = l.invariant.digits ∙ digits-on s l.b-index (omega arith) (omega (arith, c.digit-d.ensures));
    }

pub returns : goal.returns
returns c = let s = c.args.s.now in
    let l = c.loop-b in
    let e = l.invariant.number ∙ spelled-end s l.b-index l.n (omega arith) in
    let some : (length s ≡ 0 → ⊥) = λ z. search (rules, tests) in
    sym (natural-is s some (l.invariant.digits ∙ digits-end s l.b-index (omega arith)) (omega (arith, e, l.invariant.in_range)) ∙ ap Some e)
