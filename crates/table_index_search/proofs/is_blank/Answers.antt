-- `table_index_search::is_blank` meets its contract: all bytes are zero.
-- Assumes nothing.
use Rattle.std.proofs.Common.{rules, ◌∙◌, refl}
use borrow.Author.Tests.{tests}
use Rattle.std.proofs.lemmas.Iterator.{YieldsList-from_range}
use Rattle.std.proofs.lemmas.Iterator.Search.{all_from_yields_List}
use Rattle.table_index_search.specs.Index.{entry_size}
use Rattle.table_index_search.specs.Agree.{zero_at, blank_at}
use Rattle.table_index_search.proofs.Ranges.{all-of}
use Rattle.table_index_search.proofs.is_blank.Goals as goal

pub returns : goal.returns
unfolding blank_at zero_at
returns c = let f = zero_at c.args.index.now c.args.j in
    all_from_yields_List f _ _ c.all.result c.all.ensures.ran (YieldsList-from_range 0 entry_size entry_size refl refl) (λ x b q k. search (rules, tests)) ∙ all-of f entry_size
