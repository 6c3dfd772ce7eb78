-- `table_slots::sound_marks` meets its contract: no place is flawed.
-- Assumes nothing.
use Rattle.std.proofs.Common.{rules, ◌≡◌, ◌∙◌, ap, not, refl, get_or, arith}
use borrow.Author.Tests.{tests}
use Rattle.std.proofs.lemmas.Iterator.{YieldsList-from_range}
use Rattle.std.proofs.lemmas.Iterator.Search.{any_from_yields_List}
use Rattle.std.proofs.lemmas.List.FromFn.{length-range_with_len, get_or-range_with_len}
use Rattle.std.specs.List.{list_any, range_with_len}
use Rattle.table_slots.specs.Slots.{slots}
use Rattle.table_slots.specs.Inner.{flawed_mark, sound_marks}
use Rattle.table_slots.proofs.Places.{none-of}
use Rattle.table_slots.proofs.sound_marks.Goals as goal

pub returns : goal.returns
unfolding sound_marks
returns c = let f = flawed_mark c.args.row.now in
    let e : c.any.result ≡ list_any f (range_with_len 0 slots) = any_from_yields_List f _ _ c.any.result c.any.ensures.ran (YieldsList-from_range 0 slots slots refl refl) (λ x b q k. search (rules, tests)) in
    ap not e ∙ none-of f (range_with_len 0 slots) f slots (length-range_with_len 0 slots) (λ i h. let s : get_or (range_with_len 0 slots) i 0 ≡ i = omega (arith, get_or-range_with_len 0 slots i 0 h) in ap f s)
