-- `table_index_search::all_agree` meets its contract: all places agree.
-- Assumes nothing.
use Rattle.std.proofs.Common.{rules, ◌∙◌, refl}
use borrow.Author.Tests.{tests}
use Rattle.std.proofs.lemmas.Iterator.{YieldsList-from_range}
use Rattle.std.proofs.lemmas.Iterator.Search.{all_from_yields_List}
use Rattle.table_index_search.specs.Index.{entries}
use Rattle.table_index_search.specs.Agree.{agree_at}
use Rattle.table_index_search.proofs.Ranges.{all-of}
use Rattle.table_index_search.proofs.all_agree.Goals as goal

pub returns : goal.returns
returns c = let f = agree_at c.args.marks.now c.args.index.now in
    all_from_yields_List f _ _ c.all.result c.all.ensures.ran (YieldsList-from_range 0 entries entries refl refl) (λ x b q k. search (rules, tests)) ∙ all-of f entries
