-- `table_indexed::add_entry` meets its contract: the entry that it inserts is that of the definition.
-- Assumes nothing.
use Prim.Native.Nat.{ℕ, ◌<◌, ◌≤◌}
use native.Mathlib.Decide.{dec_lt}
use mathlib.Core.List.{List}
use borrow.Author.Tests.{lt-ltb, le-ltb}
use Rattle.std.specs.Prelude.{Option, unwrap_or}
use Rattle.table_slots.specs.Slots.{slots}
use native.Mathlib.Omega.{arith}
use mathlib.Core.Path.{◌≡◌, ap, ◌∙◌}
use Rattle.table_slots.specs.Inner.{place_in, mark_or_free}
use Rattle.table_index.specs.Change.{inserted}
use Rattle.table_indexed.proofs.Calls.{free-top, header-entry}
use Rattle.table_indexed.proofs.add_entry.Goals as goal

-- a place that may be none, and 32 where it is
place-or : (p : ℕ) → p ≤ slots → unwrap_or (place_in p) slots ≡ p
unfolding place_in
place-or p top = by (dec_lt p slots)
  where
    by : Dec (p < slots) → unwrap_or (place_in p) slots ≡ p
    by (yes h) = rw (lt-ltb p slots h)
    by (no h) = rw (le-ltb p slots (omega arith)) (omega arith)

place-is : (row : List ℕ) (g : ℕ) {i : ℕ} {r : Option ℕ} → r ≡ place_in (mark_or_free row g 0) → i ≡ unwrap_or r slots → i ≡ mark_or_free row g 0
place-is row g e q = q ∙ ap (λ (r : Option ℕ). unwrap_or r slots) e ∙ place-or (mark_or_free row g 0) (free-top row g)

pub overflow_cast-i : goal.overflow_cast-i
overflow_cast-i c = let row = c.args.row.now in
    omega (arith, place-is row c.tag_of.result c.mark_or_free-place.ensures c.unwrap_or-i.ensures, free-top row c.tag_of.result)

pub returns : goal.returns
returns c = let a = c.args in
    let h = c.read_header-h.result in
    let i = c.unwrap_or-i.result in
    c.insert.ensures
    ∙ ap (λ (k : ℕ). inserted a.index.now k i) c.entry_key.ensures
    ∙ header-entry a.row.now a.index.now a.owner a.message.now h c.group_of-group.result i c.read_header-h.ensures c.group_of-group.ensures
    (place-is a.row.now c.tag_of.result c.mark_or_free-place.ensures c.unwrap_or-i.ensures ∙ ap (λ (k : ℕ). mark_or_free a.row.now k 0) c.tag_of.ensures)
