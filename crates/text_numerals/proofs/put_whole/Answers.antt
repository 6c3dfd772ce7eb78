-- `text_numerals::put_whole` meets its contract: by the sign.
-- Assumes nothing.
use mathlib.Core.Path.{sym, ap, ◌∙◌}
use mathlib.Core.List.{◌∷◌}
use lib.IntN.{nat_abs}
use mir.Syntax.{w64}
use mir.ValLaws.{to_z-of_z}
use Rattle.text_words.specs.Inner.{put, place_behind}
use Rattle.text_numerals.specs.Inner.{decimal}
use Rattle.text_numerals.proofs.Sign.{below-text, other_text}
use Rattle.text_numerals.proofs.put_whole.Goals as goal

pub returns-then-n-lt0 : goal.returns-then-n-lt0
returns-then-n-lt0 c = let a = c.args in
    let e = ap (λ m. 45 ∷ decimal m) (c.unsigned_abs.ensures.value ∙ ap nat_abs (to_z-of_z w64 a.n c.ranges.n)) ∙ sym (below-text a.n c.ranges.n c.if-n-lt0.true) in record { output = c.put_negative.ensures.output ∙ ap (put a.out.now a.at) e; answer = c.put_negative.ensures.answer ∙ ap (place_behind a.out.now a.at) e }

pub returns : goal.returns
returns c = let a = c.args in
    let e = ap decimal (c.unsigned_abs-2.ensures.value ∙ ap nat_abs (to_z-of_z w64 a.n c.ranges.n)) ∙ sym (other_text a.n c.ranges.n c.if-n-lt0.false) in record { output = c.put_natural.ensures.output ∙ ap (put a.out.now a.at) e; answer = c.put_natural.ensures.answer ∙ ap (place_behind a.out.now a.at) e }
