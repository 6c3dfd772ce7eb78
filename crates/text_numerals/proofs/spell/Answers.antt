-- The digits of the first k bytes are stored.
use Rattle.std.proofs.Common.{◌+◌, ◌*◌, ◌/◌, ◌%◌, arith, ap, ◌∙◌}
use lib.ListN.{get_or, set}
use Rattle.text_numerals.specs.Inner.{glyph}
use Rattle.text_numerals.proofs.DigitPairs.{paste-pair}
use Rattle.text_numerals.proofs.spell.Goals as goal

pub loop-k-preserved : goal.loop-k-preserved
loop-k-preserved c = let a = c.args in
    let l = c.loop-k in
    let here = a.at + 2 * l.k in
    let byte = get_or a.s.now l.k 0 in
    ap (λ x. set (set l.out here x) (here + 1) c.glyph-in-loop-k.result) c.glyph.ensures
    ∙ ap (λ x. set (set l.out here (glyph (byte / 16))) (here + 1) x) c.glyph-in-loop-k.ensures
    ∙ ap (λ o. set (set o here (glyph (byte / 16))) (here + 1) (glyph (byte % 16))) l.invariant
    ∙ paste-pair a.out.now a.at a.s.now l.k c.requires (omega arith)
