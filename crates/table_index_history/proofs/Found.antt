-- Where table and index agree, find by binary search gives what the walk over all slots gives. Rests on the keys of the table and on what the search finds.
-- Assumes nothing.
use Prim.Native.Nat.{ℕ, suc, ◌+◌, ◌*◌, ◌≤◌, ◌<◌}
use native.Mathlib.Omega.{arith}
use native.Mathlib.Decide.{dec_lt}
use mathlib.Core.Path.{◌≡◌, refl, sym, ap, ◌∙◌}
use mathlib.Core.Bool.{Bool, true, false}
use mathlib.Core.List.{List}
use lib.ListN.{length, get_or}
use borrow.Author.Tests.{eq-eqb, lt-ltb}
use Rattle.table_slots.specs.Slots.{slots, slot_size, is_owner, key, joined, slot, tag}
use Rattle.table_slots.specs.Inner.{mark}
use Rattle.table_slots.proofs.Owner.{owner-range}
use Rattle.table_slots.proofs.Marks.{mark-well}
use Rattle.table.specs.Table.{place, well_formed, key_place, find_refusal, found_at, found_length}
use Rattle.table.proofs.Whole.{Formed, formed}
use Rattle.table.proofs.Calls as walk
use Rattle.table_history.proofs.Look.{place_of}
use Rattle.table_index_search.specs.Search.{searched}
use Rattle.table_index_search.specs.Agree.{agree}
use Rattle.table_index_search.proofs.Agree.{index-sized}
use Rattle.table_index.proofs.Laws.{slot-found, none_found}
use Rattle.table_indexed.specs.Indexed.{entry_key, slot_keys}
use Rattle.table_indexed.specs.Find.{probed, find_number, part_at, part_length, found_by}
use Rattle.table_indexed.specs.Private.{in_slot}
use Rattle.table_indexed.proofs.Calls.{find-owner, find-group, find_none, find-slot, says}
use Rattle.table_index_history.proofs.Keys.{tag-of-key, key-of-tag, key_in, key-out, keys}

pub record SameFind (t x : List ℕ) (o s g : ℕ) : Type 0 where
  pub number : find_number t x o s g ≡ find_refusal t o s g
  pub start : part_at t x o s g ≡ found_at t o s g
  pub size : part_length t x o s g ≡ found_length t o s g

-- both give the same numbers
same_by : (t x : List ℕ) (o s g n a l p : ℕ) (t' : List ℕ) → found_by t x o s g ≡ record { refusal = n; at = a; length = l; probes = p } → walk.Find t o s g n a l t' → SameFind t x o s g
same_by t x o s g n a l p t' e r =
    let y = says t x o s g (record { refusal = n; at = a; length = l; probes = p }) (sym e) in
    record { number = sym y.number ∙ sym r.number; start = sym y.start ∙ sym r.start; size = sym y.size ∙ sym r.size }

in-slot : (t : List ℕ) (i g n : ℕ) → i < slots → mark (slot t i) ≡ g → in_slot t i g n ≡ record { refusal = 0; at = i * slot_size + 2; length = get_or (slot t i) 1 0; probes = n }
unfolding in_slot
in-slot t i g n h e = rw (lt-ltb i slots h, eq-eqb (mark (slot t i)) g e)

-- no slot has a key that stands nowhere
pub no_slot : (t : List ℕ) → Formed t → (o s g : ℕ) → 1 ≤ o → o ≤ 2 → s < 256 → g ≤ 2 → slots ≤ place t (suc (joined o (key s g))) slots
    → (j : ℕ) → get_or (slot_keys t) j 0 ≡ entry_key o s g → ⊥
no_slot t f o s g a b c d none j e = by (dec_lt j slots)
  where
    by : Dec (j < slots) → ⊥
    by (yes h) =
        (place_of t (suc (joined o (key s g))) slots).before j (omega arith)
        (tag-of-key (slot t j) (f.well j h) o s g a b c d (sym (key_in t j h) ∙ e))
    by (no h) = omega (arith, key-out t j (omega arith))

-- the slot that has it
pub key-there : (t : List ℕ) → Formed t → (i o s g : ℕ) → i < slots → 1 ≤ o → o ≤ 2 → s < 256 → g ≤ 2 → tag (slot t i) ≡ suc (joined o (key s g)) → get_or (slot_keys t) i 0 ≡ entry_key o s g
key-there t f i o s g h a b c d e = key_in t i h ∙ key-of-tag (slot t i) (f.well i h) o s g a b c d e

pub find-same : (t x : List ℕ) → well_formed t ≡ true → agree (slot_keys t) x ≡ true → (o s g : ℕ) → s < 256 → SameFind t x o s g
unfolding probed
find-same t x w a o s g small = by (is_owner o) (dec_lt g 3) (dec_lt p slots) refl
  where
    T : ℕ
    T = suc (joined o (key s g))

    p : ℕ
    p = place t T slots

    k : ℕ
    k = entry_key o s g

    f : Formed t
    f = formed t w

    sized : length x ≡ 128
    sized = index-sized (slot_keys t) x a

    by : (b : Bool) → Dec (g < 3) → Dec (p < slots) → is_owner o ≡ b → SameFind t x o s g
    by false d h v = same_by t x o s g 21 0 0 0 t (find-owner t x o s g f.size sized v) (walk.find-owner t o s g w v)
    by true (no d) h v =
        same_by t x o s g 17 0 0 0 t (find-group t x o s g f.size sized v (omega arith))
        (walk.find_none t o s g w v (omega (arith, walk.key_place-out t o s g (omega arith))))
    by true (yes d) (no h) v =
        let r = owner-range o v in
        let n = none_found (slot_keys t) x (keys t f) a k (omega arith) (no_slot t f o s g r.0 r.1 small (omega arith) (omega arith)) in
        same_by t x o s g 17 0 0 0 t (find_none t x o s g f.size sized v (omega arith) n)
        (walk.find_none t o s g w v (omega (arith, walk.key_place-in t o s g d)))
    by true (yes d) (yes h) v =
        let r = owner-range o v in
        let e : tag (slot t p) ≡ T = (place_of t T slots).there h in
        let m = slot-found (slot_keys t) x (keys t f) a k p (key-there t f p o s g h r.0 r.1 small (omega arith) e) (λ z. omega arith) in
        let q : key_place t o s g ≡ p = walk.key_place-in t o s g d in
        let z = walk.find-done t o s g w v (omega arith) in
        same_by t x o s g 0 (p * slot_size + 2) (get_or (slot t p) 1 0) (searched x k).probes _
        (find-slot t x o s g f.size sized v (omega arith) small m.0
        ∙ ap (λ (i : ℕ). in_slot t i T (searched x k).probes) m.1
        ∙ in-slot t p T (searched x k).probes h (mark-well (slot t p) (f.well p h) ∙ e))
        (record { number = z.number; start = z.start ∙ ap (λ (i : ℕ). i * slot_size + 2) q; size = z.size ∙ ap (λ (i : ℕ). get_or (slot t i) 1 0) q; table = z.table })
