-- `table_slots::mark_place` meets its contract: the first place that passes.
-- Assumes nothing.
use Rattle.std.proofs.Common.{rules, ◌≡◌, ◌∙◌, eqb, ℕ, refl}
use borrow.Author.Tests.{tests}
use Rattle.std.proofs.lemmas.Iterator.{YieldsList-from_slice}
use Rattle.std.proofs.lemmas.Iterator.Search.{position_from_yields_List}
use Rattle.std.specs.Prelude.{position}
use Rattle.table_slots.specs.Slots.{slots}
use Rattle.table_slots.specs.Inner.{mark_place, has_mark, place_in}
use Rattle.table_slots.proofs.Places.{place-of}
use Rattle.table_slots.proofs.mark_place.Goals as goal

pub returns : goal.returns
unfolding mark_place has_mark place_in
returns c = let row = c.args.row.now in
    let p = λ (m : ℕ). eqb m c.args.g in
    let e : c.position.result ≡ position p row =
    position_from_yields_List p _ _ c.position.result c.position.ensures.ran (YieldsList-from_slice row cc) (λ x b q k. search (rules, tests)) in
    e ∙ place-of p row (has_mark row c.args.g) slots c.told-row (λ i h. refl)
