-- `table_index_search::key_place` meets its contract: the first entry that is not below the key.
-- Assumes nothing.
use Rattle.std.proofs.Common.{rules, ◌≡◌, ◌∙◌, refl, ap, ℕ, Option}
use borrow.Author.Tests.{tests}
use Rattle.std.proofs.lemmas.Iterator.{YieldsList-from_range}
use Rattle.std.proofs.lemmas.Iterator.Search.{position_from_yields_List}
use Rattle.std.specs.Prelude.{unwrap_or}
use Rattle.std.specs.List.{position, range_with_len}
use Rattle.table_index_search.specs.Index.{entries}
use Rattle.table_index_search.specs.Place.{not_below, key_place}
use Rattle.table_index_search.proofs.Ranges.{place-of}
use Rattle.table_index_search.proofs.key_place.Goals as goal

pub returns : goal.returns
unfolding key_place not_below
returns c = let f = not_below c.args.index.now c.args.key in
    let e : c.position.result ≡ position f (range_with_len 0 entries) =
    position_from_yields_List f _ _ c.position.result c.position.ensures.ran (YieldsList-from_range 0 entries entries refl refl) (λ x b q k. search (rules, tests)) in
    c.unwrap_or.ensures ∙ ap (λ (r : Option ℕ). unwrap_or r entries) e ∙ place-of f entries
