-- `table::held_by` meets its contract: the slots that pass are counted.
-- Assumes nothing.
use Rattle.std.proofs.Common.{rules, ◌≡◌, ◌∙◌, ◌*◌, eqb, get_or, length, refl, ℕ, Bool, List, ap, sym, arith, ◌+◌}
use borrow.Author.Tests.{tests}
use Rattle.std.specs.List.{filter, range_with_len}
use Rattle.std.proofs.lemmas.Iterator.{YieldsList-from_range}
use Rattle.std.proofs.lemmas.Iterator.Consumers.{count_from_yields_List, YieldsList-from_filter, YieldsList-at}
use Rattle.table_slots.specs.Slots.{slots, slot_size, owner_at}
use Rattle.table.specs.Table.{owns, holding}
use Rattle.table.proofs.Count.{count-filter, count_same}
use Rattle.table.proofs.Calls.{slot_read}
use Rattle.table.proofs.held_by.Goals as goal

owner-first : (t : List ℕ) (i : ℕ) → get_or t (i * slot_size) 0 ≡ owner_at t i
owner-first t i = let z : i * slot_size ≡ i * slot_size + 0 = omega arith in ap (λ (k : ℕ). get_or t k 0) z ∙ sym (slot_read t i 0 (omega arith))

pub returns : goal.returns
unfolding holding owns
returns c = let t = c.args.table.now in
    let p : ℕ → Bool = λ i. eqb (get_or t (i * slot_size) 0) c.args.owner in
    let e : c.count.result ≡ length (filter p (range_with_len 0 slots)) = count_from_yields_List c.filter.result c.count.result c.count.ensures.ran (YieldsList-from_filter _ p (YieldsList-at c.filter.ensures.source (YieldsList-from_range 0 slots slots refl refl)) c.filter.ensures.closure (λ x b q k. search (rules, tests))) in
    e ∙ count-filter p slots ∙ count_same p (owns t c.args.owner) slots (λ i h. ap (λ x. eqb x c.args.owner) (owner-first t i))
