use Rattle.std.proofs.Common.{rules, ◌∙◌}
use lib.Dec.{ltb}
use borrow.Author.Tests.{tests, ne_eqb}
use Rattle.std.proofs.lemmas.Iterator.{YieldsList-from_slice}
use Rattle.std.proofs.lemmas.Iterator.Search.{all_from_yields_List}
use Rattle.text_numerals.specs.Inner.{digit}
use Rattle.text_numerals.proofs.DigitPairs.{even_pairs, odd_pairs}
use Rattle.text_numerals.proofs.pairs.Goals as goal

pub returns-then-s-eq0 : goal.returns-then-s-eq0
returns-then-s-eq0 c =
    all_from_yields_List (λ b. ltb (digit b) 16) _ _ c.all.result c.all.ensures.ran (YieldsList-from_slice c.args.s.now cc) (λ x b q k. search (rules, tests))
    ∙ even_pairs c.args.s.now c.if-s-eq0.true

pub returns-else-s-eq0 : goal.returns-else-s-eq0
returns-else-s-eq0 c = ne_eqb _ _ c.if-s-eq0.false ∙ odd_pairs c.args.s.now c.if-s-eq0.false
