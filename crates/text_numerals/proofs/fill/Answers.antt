-- The bytes of the first k pairs are stored.
use Rattle.std.proofs.Common.{◌≡◌, ◌+◌, ◌*◌, ◌/◌, ◌++◌, length, take, drop, arith, sym, ap, ◌∙◌}
use lib.ListN.{get_or, set}
use lib.Seq.{take_all}
use Rattle.text_numerals.specs.Inner.{digit, bytes_of}
use Rattle.text_numerals.proofs.DigitPairs.{bytes-length, byte_at, pairs-at, front-turn}
use Rattle.text_numerals.proofs.fill.Goals as goal

pub byte_of-requires-clause-high_bound : goal.byte_of-requires-clause-high_bound
byte_of-requires-clause-high_bound c = omega (arith, (pairs-at c.args.s.now c.loop-k.k c.requires.s_value (omega arith)).high, c.digit.ensures)

pub byte_of-requires-clause-low_bound : goal.byte_of-requires-clause-low_bound
byte_of-requires-clause-low_bound c = omega (arith, (pairs-at c.args.s.now c.loop-k.k c.requires.s_value (omega arith)).low, c.digit-in-loop-k.ensures)

pub loop-k-preserved : goal.loop-k-preserved
loop-k-preserved c = let a = c.args in
    let l = c.loop-k in
    let e = c.byte_of.ensures ∙ ap (λ x. x * 16 + c.digit-in-loop-k.result) c.digit.ensures ∙ ap (λ x. digit (get_or a.s.now (2 * l.k) 0) * 16 + x) c.digit-in-loop-k.ensures in
    let q = byte_at a.s.now l.k (omega arith) in
    let t = bytes_of a.s.now in
    ap (λ x. set l.bytes l.k x) (e ∙ sym q)
    ∙ ap (λ o. set o l.k (get_or t l.k 0)) l.invariant
    ∙ front-turn a.bytes.now t l.k (omega (arith, c.requires.s_in_bounds)) (omega (arith, bytes-length a.s.now))

pub returns : goal.returns
returns c = let a = c.args in
    let q : c.loop-k.k ≡ length a.s.now / 2 = omega arith in
    c.loop-k.invariant ∙ ap (λ k. take k (bytes_of a.s.now) ++ drop k a.bytes.now) q
    ∙ ap (λ t. t ++ drop (length a.s.now / 2) a.bytes.now) (take_all (length a.s.now / 2) (bytes_of a.s.now) (omega (arith, bytes-length a.s.now)))
