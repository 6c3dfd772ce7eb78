-- One call where table and index agree: it answers, shows and leaves what the call without an index does, and they agree after it. Rests on find, on the keys of a replaced slot and on the laws of the index.
-- Assumes nothing.
use Prim.Native.Nat.{ℕ, suc, ◌≤◌, ◌<◌}
use native.Mathlib.Omega.{arith}
use native.Mathlib.Decide.{dec_lt, ℕ_discrete}
use mathlib.Core.Path.{◌≡◌, refl, sym, ap, ◌∙◌}
use mathlib.Core.Bool.{true}
use mathlib.Core.List.{List, []}
use lib.ListN.{get_or, set, take, drop}
use borrow.Author.Tests.{ltb-true}
use Rattle.message_rows.specs.Message.{number_of, sin_of}
use Rattle.message_rows.proofs.Limits.{accepted-size, sin-most}
use Rattle.table_slots.specs.Slots.{slots, most, group_of, key_of, joined, slot, tag}
use Rattle.table_slots.proofs.Owner.{owner-range, not_none}
use Rattle.table_slots.proofs.Slot.{tag-none}
use Rattle.table_slots.proofs.Marks.{group-most}
use Rattle.table.specs.Table.{place, holding, well_formed, put, store_place, store_refusal, store_table, key_place, find_refusal, remove_table, found_length}
use Rattle.table.specs.Inner.{found}
use Rattle.table.proofs.Whole.{Formed, formed, well-formed}
use Rattle.table.proofs.Calls as walk
use Rattle.table_history.specs.History.{Ask, store, find, remove}
use Rattle.table_history.specs.Private as plain
use Rattle.table_history.proofs.Look.{place_of}
use Rattle.table_history.proofs.Step.{group-low, key-at}
use Rattle.table_history.proofs.Last.{keep}
use Rattle.table_index_search.specs.Agree.{agree}
use Rattle.table_index_search.specs.Private.{IsKey}
use Rattle.table_index.specs.Change.{inserted, deleted}
use Rattle.table_index.proofs.Laws.{stored-new, stored-again, removed}
use Rattle.table_indexed.specs.Indexed.{entry_key, message_key, slot_keys, agrees_refusal}
use Rattle.table_indexed.specs.Find.{part_at, part}
use Rattle.table_indexed.proofs.Calls.{agrees-done, agrees-passed, Stored, store-passed, store-refused, store-done, remove-refused, remove-done}
use Rattle.table_index_history.specs.Calls.{Both, number, shown, after, byte_ask}
use Rattle.table_index_history.proofs.Keys.{keys, entry_key_lem, key_in, put-keys, key-slot_of, key-empty}
use Rattle.table_index_history.proofs.Found.{find-same, no_slot, key-there}
use Rattle.table_indexed.proofs.Slots.{key-free}

-- ---- a message stored

module _ (t x : List ℕ) (o : ℕ) (m : List ℕ) (a : agree (slot_keys t) x ≡ true) (s : Stored t o m) where
  f : Formed t
  f = formed t s.whole

  abbrev i : ℕ
  i = store_place t o m

  abbrev T : ℕ
  T = suc (joined o (key_of m))

  low : 1 ≤ o
  low = (owner-range o s.owner).0

  top : o ≤ 2
  top = (owner-range o s.owner).1

  is_key : IsKey (message_key o m)
  unfolding message_key
  is_key = entry_key_lem o (sin_of m) (group_of (number_of m)) low top (sin-most m) (group-most (number_of m))

  -- the slot taken has the key or is free
  again : tag (slot t i) ≡ T → get_or (slot_keys t) i 0 ≡ message_key o m
  unfolding message_key key_of
  again e = key-there t f i o (sin_of m) (group_of (number_of m)) s.low low top (sin-most m) (group-most (number_of m)) e

  new : slots ≤ place t T slots → (j : ℕ) → get_or (slot_keys t) j 0 ≡ message_key o m → ⊥
  unfolding message_key key_of
  new h = no_slot t f o (sin_of m) (group_of (number_of m)) low top (sin-most m) (group-most (number_of m)) h

  set_agrees : Dec (place t T slots < slots) → Dec (holding t o < most) → agree (set (slot_keys t) i (message_key o m)) (inserted x (message_key o m) i) ≡ true
  set_agrees (yes h) d =
      let e : i ≡ place t T slots = walk.store_place-old t o m h in
      stored-again (slot_keys t) x (keys t f) a (message_key o m) i
      (again (ap (λ (j : ℕ). tag (slot t j)) e ∙ (place_of t T slots).there h)) (λ z. omega (arith, is_key.low))
  set_agrees (no h) (yes d) =
      let l : slots ≤ place t T slots = omega arith in
      let e : i ≡ place t 0 slots = walk.store_place-new t o m l d in
      let z : tag (slot t i) ≡ 0 = ap (λ (j : ℕ). tag (slot t j)) e ∙ (place_of t 0 slots).there (omega (arith, s.low)) in
      stored-new (slot_keys t) x (keys t f) a (message_key o m) i is_key s.low (key_in t i s.low ∙ key-free (slot t i) (tag-none (slot t i) z)) (new l)
  set_agrees (no h) (no d) = absurd (omega (arith, walk.store_place-most t o m (omega arith) (omega arith), s.low))

  pub stored-agrees : agree (slot_keys (put t i o m)) (inserted x (message_key o m) i) ≡ true
  stored-agrees =
      ap (λ (l : List ℕ). agree l (inserted x (message_key o m) i))
      (put-keys t m i o f.size s.low (accepted-size m s.accepted).1 ∙ ap (set (slot_keys t) i) (key-slot_of o m (not_none o s.owner)))
      ∙ set_agrees (dec_lt (place t T slots) slots) (dec_lt (holding t o) most)

-- ---- a message removed

pub removed-agrees : (t x : List ℕ) (o s g : ℕ) → agree (slot_keys t) x ≡ true → s < 256 → walk.Passed t o s g
    → agree (slot_keys (put t (key_place t o s g) 0 [])) (deleted x (entry_key o s g)) ≡ true
removed-agrees t x o s g a small p =
    let f = formed t p.whole in
    let i : ℕ = key_place t o s g in
    let r = owner-range o p.owner in
    let few = group-low t o s g f p.owner p.low in
    let e = key-there t f i o s g p.low r.0 r.1 small (omega arith) (key-at t o s g f p.owner p.low) in
    ap (λ (l : List ℕ). agree l (deleted x (entry_key o s g))) (put-keys t [] i 0 f.size p.low (omega arith) ∙ ap (set (slot_keys t) i) key-empty)
    ∙ removed (slot_keys t) x (keys t f) a (entry_key o s g) i e (λ z. omega (arith, r.0))

-- ---- one call

pub record Step (b : Both) (o : ℕ) (a : Ask) : Type 0 where
  pub answer : number b o a ≡ plain.number b.table o a
  pub part : shown b o a ≡ plain.shown b.table o a
  pub table : (after b o a).table ≡ plain.after b.table o a
  pub agreed : agrees_refusal (after b o a).table (after b o a).index ≡ 0

-- what a call leaves agrees
leaves : {t t' x x' : List ℕ} → t ≡ t' → x ≡ x' → agrees_refusal t' x' ≡ 0 → agrees_refusal t x ≡ 0
leaves {t} {t'} {x} {x'} p q e = ap (λ (l : List ℕ). agrees_refusal l x) p ∙ ap (agrees_refusal t') q ∙ e

pub step : (b : Both) → agrees_refusal b.table b.index ≡ 0 → (o : ℕ) (a : Ask) → byte_ask a ≡ true → Step b o a
unfolding number shown after byte_ask plain.number plain.after plain.shown part found
step b e o (find s g) h =
    let t = b.table in
    let p = agrees-passed t b.index e in
    let r = find-same t b.index p.0 p.1 o s g (ltb-true s 256 h) in
    record {
      answer = r.number;
      part = ap (λ (n : ℕ). take n (drop (part_at t b.index o s g) t)) r.size ∙ ap (λ (n : ℕ). take (found_length t o s g) (drop n t)) r.start;
      table = refl;
      agreed = e;
    }
step b e o (store m) h = by (ℕ_discrete (store_refusal t o m) 0)
  where
    t : List ℕ
    t = b.table

    x : List ℕ
    x = b.index

    by : Dec (store_refusal t o m ≡ 0) → Step b o (store m)
    by (no n) =
        let r = store-refused t x o m e n in
        record { answer = r.number; part = refl; table = r.table ∙ sym (walk.store_kept t o m n); agreed = leaves r.table r.index e }
    by (yes z) =
        let r = store-done t x o m e z in
        let p = agrees-passed t x e in
        let q = store-passed t o m z in
        let u = (walk.store-done t o m q.whole q.owner q.accepted q.low).table in
        let w : well_formed (store_table t o m) ≡ true = well-formed (store_table t o m) (keep t (formed t p.0) o (store m)).0 in
        record {
          answer = r.number ∙ sym z;
          part = refl;
          table = r.table;
          agreed = leaves (r.table ∙ u) r.index (agrees-done _ _ (ap well_formed (sym u) ∙ w) (stored-agrees t x o m p.1 q));
        }
step b e o (remove s g) h = by (ℕ_discrete (find_refusal t o s g) 0)
  where
    t : List ℕ
    t = b.table

    x : List ℕ
    x = b.index

    by : Dec (find_refusal t o s g ≡ 0) → Step b o (remove s g)
    by (no n) =
        let r = remove-refused t x o s g e n in
        record { answer = r.number; part = refl; table = r.table ∙ sym (walk.remove-kept t o s g n); agreed = leaves r.table r.index e }
    by (yes z) =
        let r = remove-done t x o s g e z in
        let p = agrees-passed t x e in
        let q = walk.find-passed t o s g z in
        let u = (walk.find-done t o s g q.whole q.owner q.low).table in
        let w : well_formed (remove_table t o s g) ≡ true = well-formed (remove_table t o s g) (keep t (formed t p.0) o (remove s g)).0 in
        record {
          answer = r.number ∙ sym z;
          part = refl;
          table = r.table;
          agreed = leaves (r.table ∙ u) r.index (agrees-done _ _ (ap well_formed (sym u) ∙ w) (removed-agrees t x o s g p.1 (ltb-true s 256 h) q));
        }
