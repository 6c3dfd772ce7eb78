-- `table_index_search::is_listed` meets its contract: a free slot, or an entry found.
-- Assumes nothing.
use Rattle.std.proofs.Common.{rules, ◌∙◌, sym, refl, get_or}
use borrow.Author.Tests.{tests}
use Rattle.std.proofs.lemmas.Iterator.{YieldsList-from_range}
use Rattle.std.proofs.lemmas.Iterator.Search.{any_from_yields_List}
use Rattle.table_index_search.specs.Index.{entries}
use Rattle.table_index_search.specs.Agree.{is_entry, entry_place}
use Rattle.table_index_search.proofs.Ranges.{any-of}
use Rattle.table_index_search.proofs.Tests.{listed_free, listed-used}
use Rattle.table_index_search.proofs.is_listed.Goals as goal

pub returns-then-key-eq0 : goal.returns-then-key-eq0
returns-then-key-eq0 c = let a = c.args in sym (listed_free a.marks.now a.index.now a.i c.if-key-eq0.true)

pub returns : goal.returns
unfolding entry_place
returns c = let a = c.args in
    let f = is_entry a.index.now (get_or a.marks.now a.i 0) a.i in
    any_from_yields_List f _ _ c.any.result c.any.ensures.ran (YieldsList-from_range 0 entries entries refl refl) (λ x b q k. search (rules, tests))
    ∙ any-of f entries
    ∙ sym (listed-used a.marks.now a.index.now a.i c.if-key-eq0.false)
