-- What `position` answers is the place of the first such byte.
use Rattle.std.proofs.Common.{rules, ◌∙◌, ap, nat_eq, length}
use borrow.Author.Tests.{tests}
use Rattle.std.specs.Option.{unwrap_or}
use Rattle.std.proofs.lemmas.Iterator.{YieldsList-from_slice}
use Rattle.std.proofs.lemmas.Iterator.Search.{position_from_yields_List}
use Rattle.text_words.proofs.Laws.{found}
use Rattle.text_words.proofs.find.Goals as goal

pub returns : goal.returns
returns c =
    let e = position_from_yields_List (λ x. nat_eq x c.args.b) _ _ c.position.result c.position.ensures.ran (YieldsList-from_slice c.args.s.now cc) (λ x b q k. search (rules, tests)) in
    c.unwrap_or.ensures ∙ ap (λ r. unwrap_or r (length c.args.s.now)) e ∙ found c.args.b c.args.s.now
