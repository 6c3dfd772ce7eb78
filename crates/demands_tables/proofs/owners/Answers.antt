-- `demands_tables::owners` carries its theorems.
-- Assumes nothing.
use Rattle.table_index_search.specs.Search.{slot_found}
use Prim.Native.Nat.{ℕ, suc}
use mathlib.Core.Path.{◌≡◌, refl, sym, ap, ◌∙◌}
use mathlib.Core.Bool.{Bool, true, false, cond, ◌&&◌, ◌||◌}
use lib.Dec.{eqb, leb}
use borrow.Author.Tests.{eq-eqb, eqb-true}
use Rattle.arith.proofs.Tests.{both_first, both-second}
use Rattle.message_rows.specs.Message.{number_of, sin_of}
use Rattle.message_rows.proofs.Limits.{sin-most}
use Rattle.table_slots.specs.Slots.{group_of, key, joined, slot, used, tag}
use Rattle.table_slots.proofs.Slot.{size-byte, tag-says}
use Rattle.table.specs.Table.{holding, used_slots, store_table, remove_table}
use Rattle.table_history.specs.History.{store, find, remove}
use Rattle.table_history.specs.Private as plain
use Rattle.table_history.proofs.Others.{owner-refused, others-kept, full-exactly, twelve-there}
use Rattle.table_indexed.specs.Indexed.{agrees_refusal, stored_table, removed_table}
use Rattle.table_indexed.specs.Find.{probed, used_by, find_number, given, part_at, part_length}
use Rattle.table_indexed.proofs.Calls.{agrees-passed, find-passed}
use Rattle.table_index_history.proofs.Found.{find-same}
use Rattle.table_index_history.proofs.Step.{step}
use Rattle.table_indexed.proofs.Slots.{used-well}
use Rattle.table_index_history.specs.Calls.{after, byte_ask}
use Rattle.demands_tables.specs.Tables.{OwnerRefused, OthersKept, ShownOwn, FullExactly, TwelveThere}
use Rattle.demands_tables.proofs.owners.Goals as goal

kept : OthersKept
unfolding after stored_table removed_table plain.after
kept b o (store m) i l n k = by (eqb (agrees_refusal b.table b.index) 0)
  where
    by : (d : Bool) → slot (cond d (store_table b.table o m) b.table) i ≡ slot b.table i
    by true = others-kept b.table o i l n k (store m)
    by false = refl
kept b o (find s g) i l n k = refl
kept b o (remove s g) i l n k = by (eqb (agrees_refusal b.table b.index) 0)
  where
    by : (d : Bool) → slot (cond d (remove_table b.table o s g) b.table) i ≡ slot b.table i
    by true = others-kept b.table o i l n k (remove s g)
    by false = refl

own : ShownOwn
unfolding part_at part_length given used_by
own t x o s g e =
    let p = find-passed t x o s g e in
    let i = slot_found (probed x o s g) in
    let w = used-well (slot t i) (both_first (used (slot t i)) (eqb (tag (slot t i)) (suc (joined o (key s g)))) p.has) in
    let q = eqb-true (tag (slot t i)) (suc (joined o (key s g))) (both-second (used (slot t i)) _ p.has) in
    record {
      at = i;
      low = p.low;
      owned = (tag-says (slot t i) w o (key s g) p.owner q).0;
      start = rw (eq-eqb (find_number t x o s g) 0 e);
      size = rw (eq-eqb (find_number t x o s g) 0 e) (size-byte (slot t i) w);
    }

refused : OwnerRefused
refused b e o a h v =
    let p = agrees-passed b.table b.index e in
    let r = owner-refused b.table o v a in
    let s = step b e o a h in
    record { number = s.answer ∙ r.0 ∙ rw p.0; part = s.part ∙ r.1 }

full : FullExactly
unfolding plain.number byte_ask
full b e o v m a =
    let t = b.table in
    let x = b.index in
    let p = agrees-passed t x e in
    let g = group_of (number_of m) in
    let z = find-same t x p.0 p.1 o (sin_of m) g (sin-most m) in
    (step b e o (store m) refl).answer
    ∙ full-exactly t p.0 o v m a
    ∙ sym (ap (λ (n : ℕ). cond (eqb n 17 && (leb 20 (holding t o) || leb 32 (used_slots t))) 16 0) z.number)

twelve : TwelveThere
unfolding plain.number byte_ask
twelve b e o v m a h = (step b e o (store m) refl).answer ∙ twelve-there b.table (agrees-passed b.table b.index e).0 o v m a h

pub returns : goal.returns
returns c = record { none = refused; kept = kept; shown = own; full = full; twelve = twelve }
