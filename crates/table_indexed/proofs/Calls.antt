-- What the calls with the index answer, by cases. Rests on the definitions and on what the table's own calls answer.
-- Assumes nothing.
use Prim.Native.Nat.{ℕ, suc, ◌+◌, ◌*◌, ◌≤◌, ◌<◌}
use native.Mathlib.Omega.{arith}
use native.Mathlib.Decide.{dec_lt, ℕ_discrete}
use mathlib.Core.Path.{◌≡◌, refl, sym, ap, ◌∙◌}
use mathlib.Core.Bool.{Bool, true, false, not, cond}
use mathlib.Core.List.{List}
use lib.Dec.{eqb, ltb}
use lib.ListN.{length, get_or}
use borrow.Author.Tests.{eq-eqb, ne_eqb, lt-ltb, le-ltb, ltb-true, eqb-true}
use Rattle.arith.proofs.First.{passed, not-false}
use Rattle.arith.proofs.Tests.{both_first}
use Rattle.arith.proofs.Places.{first}
use Rattle.message_rows.specs.Message.{refusal, header}
use Rattle.message_rows.specs.declared.Header.{Header}
use Rattle.table_slots.specs.Slots.{slots, most, slot_size, table_size, is_owner, group_of, key, key_of, joined, slot, used, tag}
use Rattle.table_slots.specs.Inner.{marks, has_mark, mark_place, mark_or_free}
use Rattle.table_slots.proofs.Owner.{owner-range}
use Rattle.table_slots.proofs.Slot.{size-byte}
use Rattle.table.specs.Table.{place, holding, well_formed, store_place, store_refusal, store_table, find_refusal, remove_table}
use Rattle.table.proofs.Marks.{row-place}
use Rattle.table.proofs.Calls.{store-order, store_kept, remove-kept, store_place-old, store_place-new, store_place-most}
use Rattle.table_index_search.specs.Index.{index_size}
use Rattle.table_index_search.specs.Search.{is_found, slot_found}
use Rattle.table_index_search.specs.Agree.{agree}
use Rattle.table_index.specs.Change.{inserted, deleted, rebuilt}
use Rattle.table_indexed.specs.Indexed.{entry_key, message_key, slot_keys, agrees_refusal, write_refusal, write_index, behind, store_number, stored_table, stored_index, remove_number, removed_table, removed_index}
use Rattle.table_indexed.specs.Find.{probed, used_by, find_number, given, part_at, part_length, found_by}
use Rattle.table_indexed.specs.Private.{entry_in, entry_added, missing, in_slot}
use Rattle.table_indexed.specs.declared.Found.{Found}
use Rattle.table_indexed.proofs.Slots.{used-mark, used-well}

-- ---- agreement, and the index anew

module _ (t x : List ℕ) where
  pub agrees-table : well_formed t ≡ false → agrees_refusal t x ≡ 18
  unfolding agrees_refusal
  agrees-table w = rw w

  pub agrees-index : well_formed t ≡ true → agree (slot_keys t) x ≡ false → agrees_refusal t x ≡ 22
  unfolding agrees_refusal
  agrees-index w a = rw (w, a)

  pub agrees-done : well_formed t ≡ true → agree (slot_keys t) x ≡ true → agrees_refusal t x ≡ 0
  unfolding agrees_refusal
  agrees-done w a = rw (w, a)

  -- what an answer of 0 says
  pub agrees-passed : agrees_refusal t x ≡ 0 → (well_formed t ≡ true) × (agree (slot_keys t) x ≡ true)
  unfolding agrees_refusal
  agrees-passed e =
      let a = passed 17 (not (well_formed t)) _ e in
      let b = passed 21 (not (agree (slot_keys t) x)) _ a.1 in
      (not-false _ a.0, not-false _ b.0)

  pub record Written (n : ℕ) (x' : List ℕ) : Type 0 where
    pub number : write_refusal t x ≡ n
    pub index : write_index t x ≡ x'

  pub write-table : well_formed t ≡ false → Written 18 x
  unfolding write_refusal write_index
  write-table w = record { number = rw w; index = rw w }

  pub write-other : well_formed t ≡ true → (length x ≡ index_size → ⊥) → Written 22 x
  unfolding write_refusal write_index
  write-other w n = record { number = rw (w, ne_eqb (length x) index_size n); index = rw (w, ne_eqb (length x) index_size n) }

  pub write_done : well_formed t ≡ true → length x ≡ index_size → Written 0 (rebuilt (slot_keys t) x)
  unfolding write_refusal write_index
  write_done w e = record { number = rw (w, eq-eqb (length x) index_size e); index = rw (w, eq-eqb (length x) index_size e) }

-- ---- store

pub record Stored (t : List ℕ) (o : ℕ) (m : List ℕ) : Type 0 where
  pub whole : well_formed t ≡ true
  pub owner : is_owner o ≡ true
  pub accepted : refusal m ≡ 0
  pub low : store_place t o m < slots

pub store-passed : (t : List ℕ) (o : ℕ) (m : List ℕ) → store_refusal t o m ≡ 0 → Stored t o m
store-passed t o m e = by (well_formed t) (is_owner o) (eqb (refusal m) 0) (ltb (store_place t o m) slots) refl refl refl refl (sym (store-order t o m) ∙ e)
  where
    by : (a b d f : Bool) → well_formed t ≡ a → is_owner o ≡ b → eqb (refusal m) 0 ≡ d → ltb (store_place t o m) slots ≡ f
        → cond a (cond b (cond d (cond f 0 16) (refusal m)) 21) 18 ≡ 0 → Stored t o m
    by false b d f p q r s z = absurd (omega arith)
    by true false d f p q r s z = absurd (omega arith)
    by true true false f p q r s z = absurd (let y : ◌≡◌ {A = Bool} false true = sym r ∙ eq-eqb (refusal m) 0 z in let w : ◌≡◌ {A = ℕ} 0 1 = cc in omega arith)
    by true true true false p q r s z = absurd (omega arith)
    by true true true true p q r s z = record { whole = p; owner = q; accepted = eqb-true (refusal m) 0 r; low = ltb-true (store_place t o m) slots s }

-- the slot of the new entry is that of the message
pub new-slot : (t row : List ℕ) (o : ℕ) (m : List ℕ) → row ≡ marks t → Stored t o m → mark_or_free row (suc (joined o (key_of m))) 0 ≡ store_place t o m
unfolding mark_or_free
new-slot t row o m is s = by (dec_lt p slots) (dec_lt (holding t o) most)
  where
    p : ℕ
    p = place t (suc (joined o (key_of m))) slots

    here : mark_place row (suc (joined o (key_of m))) slots ≡ p
    here = row-place t row is s.whole (suc (joined o (key_of m)))

    by : Dec (p < slots) → Dec (holding t o < most) → cond (ltb (mark_place row (suc (joined o (key_of m))) slots) slots) (mark_place row (suc (joined o (key_of m))) slots) (cond (ltb 0 most) (mark_place row 0 slots) slots) ≡ store_place t o m
    by (yes h) d = rw (here, lt-ltb p slots h) (sym (store_place-old t o m h))
    by (no h) (yes k) =
        let l : slots ≤ p = omega arith in
        rw (here, le-ltb p slots l, row-place t row is s.whole 0) (sym (store_place-new t o m l k))
    by (no h) (no k) = absurd (omega (arith, store_place-most t o m (omega arith) (omega arith), s.low))

pub free-top : (row : List ℕ) (g : ℕ) → mark_or_free row g 0 ≤ slots
unfolding mark_or_free mark_place
free-top row g = by (ltb (mark_place row g slots) slots)
  where
    by : (b : Bool) → cond b (mark_place row g slots) (cond (ltb 0 most) (mark_place row 0 slots) slots) ≤ slots
    by true = (first (has_mark row g) slots).top
    by false = (first (has_mark row 0) slots).top

-- the entry of an accepted message
pub entry-added : (t row x : List ℕ) (o : ℕ) (m : List ℕ) → row ≡ marks t → Stored t o m → entry_added row x o m ≡ inserted x (message_key o m) (store_place t o m)
unfolding entry_added entry_in header message_key key_of
entry-added t row x o m is s = rw (eq-eqb (refusal m) 0 s.accepted) (ap (inserted x (message_key o m)) (new-slot t row o m is s))

-- what the code has of a header
pub header-entry : (row x : List ℕ) (o : ℕ) (m : List ℕ) (h : Header) (g i : ℕ) → h ≡ header m → g ≡ group_of h.number → i ≡ mark_or_free row (suc (joined o (key h.sin g))) 0
    → inserted x (entry_key o h.sin g) i ≡ entry_added row x o m
unfolding entry_added entry_in
header-entry row x o m h g i e p q =
    ap (inserted x (entry_key o h.sin g)) q
    ∙ ap (λ (k : ℕ). inserted x (entry_key o h.sin k) (mark_or_free row (suc (joined o (key h.sin k))) 0)) p
    ∙ ap (λ (z : Header). inserted x (entry_key o z.sin (group_of z.number)) (mark_or_free row (suc (joined o (key z.sin (group_of z.number)))) 0)) e

module _ (t x : List ℕ) (o : ℕ) (m : List ℕ) where
  pub record Store (n : ℕ) (t' x' : List ℕ) : Type 0 where
    pub number : store_number t x o m ≡ n
    pub table : stored_table t x o m ≡ t'
    pub index : stored_index t x o m ≡ x'

  pub store-disagrees : (agrees_refusal t x ≡ 0 → ⊥) → Store (agrees_refusal t x) t x
  unfolding store_number stored_table stored_index behind
  store-disagrees n =
      let z = ne_eqb (agrees_refusal t x) 0 n in
      record { number = rw z; table = rw z; index = rw (z, z) }

  pub store-refused : agrees_refusal t x ≡ 0 → (store_refusal t o m ≡ 0 → ⊥) → Store (store_refusal t o m) t x
  unfolding store_number stored_table stored_index behind
  store-refused e n =
      let z = eq-eqb (agrees_refusal t x) 0 e in
      record { number = rw z; table = rw z (store_kept t o m n); index = rw (z, ne_eqb (store_refusal t o m) 0 n) }

  pub store-done : agrees_refusal t x ≡ 0 → store_refusal t o m ≡ 0 → Store 0 (store_table t o m) (inserted x (message_key o m) (store_place t o m))
  unfolding store_number stored_table stored_index behind
  store-done e n =
      let z = eq-eqb (agrees_refusal t x) 0 e in
      record { number = rw z n; table = rw z; index = rw (z, eq-eqb (store_refusal t o m) 0 n) }

-- ---- remove

module _ (t x : List ℕ) (o s g : ℕ) where
  pub record Remove (n : ℕ) (t' x' : List ℕ) : Type 0 where
    pub number : remove_number t x o s g ≡ n
    pub table : removed_table t x o s g ≡ t'
    pub index : removed_index t x o s g ≡ x'

  pub remove-disagrees : (agrees_refusal t x ≡ 0 → ⊥) → Remove (agrees_refusal t x) t x
  unfolding remove_number removed_table removed_index behind
  remove-disagrees n =
      let z = ne_eqb (agrees_refusal t x) 0 n in
      record { number = rw z; table = rw z; index = rw (z, z) }

  pub remove-refused : agrees_refusal t x ≡ 0 → (find_refusal t o s g ≡ 0 → ⊥) → Remove (find_refusal t o s g) t x
  unfolding remove_number removed_table removed_index behind
  remove-refused e n =
      let z = eq-eqb (agrees_refusal t x) 0 e in
      record { number = rw z; table = rw z (remove-kept t o s g n); index = rw (z, ne_eqb (find_refusal t o s g) 0 n) }

  pub remove-done : agrees_refusal t x ≡ 0 → find_refusal t o s g ≡ 0 → Remove 0 (remove_table t o s g) (deleted x (entry_key o s g))
  unfolding remove_number removed_table removed_index behind
  remove-done e n =
      let z = eq-eqb (agrees_refusal t x) 0 e in
      record { number = rw z n; table = rw z; index = rw (z, eq-eqb (find_refusal t o s g) 0 n) }

  -- ---- find

  refused : (n : ℕ) → find_number t x o s g ≡ n → (n ≡ 0 → ⊥) → found_by t x o s g ≡ missing n
  unfolding found_by part_at part_length given
  refused n e h = rw (e, ne_eqb n 0 h)

  pub find-table : (length t ≡ table_size → ⊥) → found_by t x o s g ≡ missing 18
  unfolding find_number
  find-table n = refused 18 (rw (ne_eqb (length t) table_size n)) (λ e. omega arith)

  module _ (size : length t ≡ table_size) where
    pub find-index : (length x ≡ index_size → ⊥) → found_by t x o s g ≡ missing 22
    unfolding find_number
    find-index n = refused 22 (rw (eq-eqb (length t) table_size size, ne_eqb (length x) index_size n)) (λ e. omega arith)

    module _ (sized : length x ≡ index_size) where
      a : eqb (length t) table_size ≡ true
      a = eq-eqb (length t) table_size size

      b : eqb (length x) index_size ≡ true
      b = eq-eqb (length x) index_size sized

      pub find-owner : is_owner o ≡ false → found_by t x o s g ≡ missing 21
      unfolding find_number
      find-owner v = refused 21 (rw (a, b, v)) (λ e. omega arith)

      module _ (v : is_owner o ≡ true) where
        pub find-group : 2 < g → found_by t x o s g ≡ missing 17
        unfolding find_number
        find-group h = refused 17 (rw (a, b, v, le-ltb g 3 (omega arith))) (λ e. omega arith)

        module _ (low : g ≤ 2) where
          d : ltb g 3 ≡ true
          d = lt-ltb g 3 (omega arith)

          pub find_none : is_found (probed x o s g) ≡ false → found_by t x o s g ≡ missing 17
          unfolding find_number
          find_none n = refused 17 (rw (a, b, v, d, n)) (λ e. omega arith)

          pub find-slot : s < 256 → is_found (probed x o s g) ≡ true → found_by t x o s g ≡ in_slot t (slot_found (probed x o s g)) (suc (joined o (key s g))) (probed x o s g).probes
          unfolding find_number found_by part_at part_length given in_slot
          find-slot h f = rw (a, b, v, d, f, used-mark (slot t (slot_found (probed x o s g))) o s g (owner-range o v).1 h low) (by (ltb (slot_found (probed x o s g)) slots) (used_by (slot t (slot_found (probed x o s g))) o s g))
            where
              by : (p q : Bool) → ◌≡◌ {A = Found}
                  (record {
                    refusal = cond (not p) 22 (cond (not q) 22 0);
                    at = cond (eqb (cond (not p) 22 (cond (not q) 22 0)) 0) (slot_found (probed x o s g) * slot_size + 2) 0;
                    length = cond (eqb (cond (not p) 22 (cond (not q) 22 0)) 0) (get_or (slot t (slot_found (probed x o s g))) 1 0) 0;
                    probes = cond (eqb (cond (not p) 22 (cond (not q) 22 0)) 0) (probed x o s g).probes 0;
                  })
                  (cond p (cond q (record { refusal = 0; at = slot_found (probed x o s g) * slot_size + 2; length = get_or (slot t (slot_found (probed x o s g))) 1 0; probes = (probed x o s g).probes }) (missing 22)) (missing 22))
              by true true = refl
              by true false = refl
              by false q = refl

-- what an answer of 0 says
pub record Passed (t x : List ℕ) (o s g : ℕ) : Type 0 where
  pub size : length t ≡ table_size
  pub sized : length x ≡ index_size
  pub owner : is_owner o ≡ true
  pub group : g < 3
  pub met : is_found (probed x o s g) ≡ true
  pub low : (slot_found (probed x o s g)) < slots
  pub has : used_by (slot t (slot_found (probed x o s g))) o s g ≡ true

pub find-passed : (t x : List ℕ) (o s g : ℕ) → find_number t x o s g ≡ 0 → Passed t x o s g
unfolding find_number
find-passed t x o s g z =
    let i = slot_found (probed x o s g) in
    let a = passed 17 (not (eqb (length t) table_size)) _ z in
    let b = passed 21 (not (eqb (length x) index_size)) _ a.1 in
    let d = passed 20 (not (is_owner o)) _ b.1 in
    let e = passed 16 (not (ltb g 3)) _ d.1 in
    let f = passed 16 (not (is_found (probed x o s g))) _ e.1 in
    let h = passed 21 (not (ltb i slots)) _ f.1 in
    let j = passed 21 (not (used_by (slot t i) o s g)) _ h.1 in
    record {
      size = eqb-true (length t) table_size (not-false _ a.0);
      sized = eqb-true (length x) index_size (not-false _ b.0);
      owner = not-false _ d.0;
      group = ltb-true g 3 (not-false _ e.0);
      met = not-false _ f.0;
      low = ltb-true i slots (not-false _ h.0);
      has = not-false _ j.0;
    }

-- what find's answer says
pub record Says (t x : List ℕ) (o s g : ℕ) (f : Found) : Type 0 where
  pub number : f.refusal ≡ find_number t x o s g
  pub start : f.at ≡ part_at t x o s g
  pub size : f.length ≡ part_length t x o s g

pub says : (t x : List ℕ) (o s g : ℕ) (f : Found) → f ≡ found_by t x o s g → Says t x o s g f
unfolding found_by
says t x o s g f e = record { number = ap (λ r. r.refusal) e; start = ap (λ r. r.at) e; size = ap (λ r. r.length) e }

-- the part that find shows is in the table
pub part-fits : (t x : List ℕ) (o s g : ℕ) → part_at t x o s g + part_length t x o s g ≤ length t
unfolding part_at part_length given used_by
part-fits t x o s g = by (ℕ_discrete (find_number t x o s g) 0)
  where
    i : ℕ
    i = slot_found (probed x o s g)

    by : Dec (find_number t x o s g ≡ 0) → cond (eqb (find_number t x o s g) 0) (i * slot_size + 2) 0 + cond (eqb (find_number t x o s g) 0) (get_or (slot t i) 1 0) 0 ≤ length t
    by (yes e) =
        let p = find-passed t x o s g e in
        let u = both_first (used (slot t i)) (eqb (tag (slot t i)) (suc (joined o (key s g)))) p.has in
        rw (eq-eqb (find_number t x o s g) 0 e) (omega (arith, size-byte (slot t i) (used-well (slot t i) u), p.size, p.low))
    by (no n) = rw (ne_eqb (find_number t x o s g) 0 n) (omega arith)
