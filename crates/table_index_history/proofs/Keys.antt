-- The keys of a well-formed table's slots: each is a key, none stands twice, and a replaced slot changes one of them. Of the reader only that a SIN is below 256.
-- Assumes nothing.
use Prim.Native.Nat.{ℕ, suc, ◌≤◌, ◌<◌}
use native.Mathlib.Omega.{arith}
use native.Mathlib.Decide.{dec_lt, ℕ_discrete}
use mathlib.Core.Path.{◌≡◌, refl, sym, ap, subst, ◌∙◌}
use mathlib.Core.Bool.{true}
use mathlib.Core.List.{List, []}
use lib.ListN.{length, get_or, set, length-set, get_or-eq_default}
use lib.Seq.{ext_get_or, get_or-set_same, get_or-set_other}
use borrow.Author.Tests.{ne_eqb}
use Rattle.arith.proofs.Lists.{length-up_to, get_d-up_to}
use Rattle.message_rows.specs.Message.{number_of, sin_of}
use Rattle.message_rows.proofs.Limits.{sin-most}
use Rattle.table_slots.specs.Slots.{slots, message_size, table_size, group_of, key, key_of, joined, slot, held, well_slot, tag, slot_of}
use Rattle.table_slots.proofs.Owner.{owner-range}
use Rattle.table_slots.proofs.Slot.{tag_free, tag-used, used-of}
use Rattle.table_slots.proofs.Marks.{group-most}
use Rattle.table.specs.Table.{put}
use Rattle.table.proofs.Whole.{Formed}
use Rattle.table_history.proofs.Look.{distinct-at}
use Rattle.table_history.proofs.Put.{slot_same, slot-other, held-slot_of}
use Rattle.table_index_search.specs.Private.{IsKey, Keys}
use Rattle.table_index_search.specs.Means.{mark_in}
use Rattle.table_indexed.specs.Indexed.{entry_key, message_key, slot_key, slot_key_at, slot_keys}
use Rattle.table_indexed.proofs.Slots.{key-free, key-used}

-- ---- one slot

-- owner, SIN and group of a used slot
pub record Says (s : List ℕ) : Type 0 where
  pub owner : ℕ
  pub sin : ℕ
  pub group : ℕ
  pub low : 1 ≤ owner
  pub top : owner ≤ 2
  pub small : sin < 256
  pub few : group ≤ 2
  pub key-is : slot_key s ≡ entry_key owner sin group
  pub tag_is : tag s ≡ suc (joined owner (key sin group))

says : (s : List ℕ) → well_slot s ≡ true → (get_or s 0 0 ≡ 0 → ⊥) → Says s
unfolding key_of message_key
says s w n =
    let r = owner-range (get_or s 0 0) (used-of s w n).owner in
    record {
      owner = get_or s 0 0;
      sin = sin_of (held s);
      group = group_of (number_of (held s));
      low = r.0;
      top = r.1;
      small = sin-most (held s);
      few = group-most (number_of (held s));
      key-is = key-used s n;
      tag_is = tag-used s n;
    }

has-owner : (s : List ℕ) → (slot_key s ≡ 0 → ⊥) → get_or s 0 0 ≡ 0 → ⊥
has-owner s n z = n (key-free s z)

module _ (s : List ℕ) (w : well_slot s ≡ true) (o n g : ℕ) (low : 1 ≤ o) (top : o ≤ 2) (small : n < 256) (few : g ≤ 2) where
  -- the key of a slot says its tag, and the tag the key
  pub tag-of-key : slot_key s ≡ entry_key o n g → tag s ≡ suc (joined o (key n g))
  tag-of-key e =
      let y = says s w (has-owner s (λ z. omega arith)) in
      let q : entry_key y.owner y.sin y.group ≡ entry_key o n g = sym y.key-is ∙ e in
      let a : y.owner ≡ o = omega (arith, y.small, y.few, y.top) in
      let b : y.sin ≡ n = omega (arith, y.small, y.few) in
      let d : y.group ≡ g = omega arith in
      y.tag_is ∙ omega arith

  pub key-of-tag : tag s ≡ suc (joined o (key n g)) → slot_key s ≡ entry_key o n g
  key-of-tag e =
      let z : get_or s 0 0 ≡ 0 → ⊥ = by (ℕ_discrete (get_or s 0 0) 0) in
      let y = says s w z in
      let q : joined y.owner (key y.sin y.group) ≡ joined o (key n g) = omega (arith, y.tag_is) in
      let a : y.owner ≡ o = omega (arith, y.top) in
      let b : y.sin ≡ n = omega (arith, y.few) in
      let d : y.group ≡ g = omega arith in
      y.key-is ∙ omega arith
    where
      by : Dec (get_or s 0 0 ≡ 0) → get_or s 0 0 ≡ 0 → ⊥
      by (yes h) z = omega (arith, tag_free s h)
      by (no h) z = h z

pub entry_key_lem : (o n g : ℕ) → 1 ≤ o → o ≤ 2 → n < 256 → g ≤ 2 → IsKey (entry_key o n g)
entry_key_lem o n g low top small few = record { low = omega arith; high = omega arith }

-- ---- the keys of a table

pub length-keys : (t : List ℕ) → length (slot_keys t) ≡ slots
unfolding slot_keys
length-keys t = length-up_to (slot_key_at t) slots

pub key_in : (t : List ℕ) (i : ℕ) → i < slots → get_or (slot_keys t) i 0 ≡ slot_key (slot t i)
unfolding slot_keys slot_key_at
key_in t i h = get_d-up_to (slot_key_at t) slots i 0 h

pub key-out : (t : List ℕ) (i : ℕ) → slots ≤ i → get_or (slot_keys t) i 0 ≡ 0
key-out t i h = get_or-eq_default (slot_keys t) 0 {n = i} (omega (arith, length-keys t))

module _ (t : List ℕ) (f : Formed t) where
  within : (i : ℕ) → (get_or (slot_keys t) i 0 ≡ 0 → ⊥) → i < slots
  within i n = by (dec_lt i slots)
    where
      by : Dec (i < slots) → i < slots
      by (yes h) = h
      by (no h) = absurd (n (key-out t i (omega arith)))

  used-says : (i : ℕ) → (get_or (slot_keys t) i 0 ≡ 0 → ⊥) → Says (slot t i)
  used-says i n = let h = within i n in says (slot t i) (f.well i h) (has-owner (slot t i) (λ z. n (key_in t i h ∙ z)))

  once : (i k : ℕ) → (get_or (slot_keys t) i 0 ≡ 0 → ⊥) → get_or (slot_keys t) i 0 ≡ get_or (slot_keys t) k 0 → i ≡ k
  once i k n e =
      let hi = within i n in
      let hk = within k (λ z. n (e ∙ z)) in
      let y = used-says i n in
      let q = sym (key_in t k hk) ∙ sym e ∙ key_in t i hi ∙ y.key-is in
      let r = tag-of-key (slot t k) (f.well k hk) y.owner y.sin y.group y.low y.top y.small y.few q in
      distinct-at t f i k hi hk (joined y.owner (key y.sin y.group)) y.tag_is r

  pub keys : Keys (mark_in (slot_keys t))
  keys =
      record {
        within = within;
        keys = λ i n. (let y = used-says i n in
            subst IsKey (sym (key_in t i (within i n) ∙ y.key-is)) (entry_key_lem y.owner y.sin y.group y.low y.top y.small y.few));
        once = once;
      }

-- ---- a replaced slot

pub put-keys : (t m : List ℕ) (i o : ℕ) → length t ≡ table_size → i < slots → length m ≤ message_size → slot_keys (put t i o m) ≡ set (slot_keys t) i (slot_key (slot_of o m))
put-keys t m i o size low short =
    ext_get_or 0 (slot_keys (put t i o m)) (set (slot_keys t) i (slot_key (slot_of o m))) (length-keys (put t i o m) ∙ sym (length-set (slot_keys t) i (slot_key (slot_of o m)) ∙ length-keys t))
    (λ j l. by j (omega (arith, length-keys (put t i o m))) (ℕ_discrete j i))
  where
    by : (j : ℕ) → j < slots → Dec (j ≡ i) → get_or (slot_keys (put t i o m)) j 0 ≡ get_or (set (slot_keys t) i (slot_key (slot_of o m))) j 0
    by j h (yes e) =
        key_in (put t i o m) j h
        ∙ ap (λ (k : ℕ). slot_key (slot (put t i o m) k)) e
        ∙ ap slot_key (slot_same t m i o size low short)
        ∙ sym (ap (λ (k : ℕ). get_or (set (slot_keys t) i (slot_key (slot_of o m))) k 0) e ∙ get_or-set_same (slot_keys t) i (slot_key (slot_of o m)) 0 (omega (arith, length-keys t)))
    by j h (no n) =
        key_in (put t i o m) j h
        ∙ ap slot_key (slot-other t m i o size low short j h n)
        ∙ sym (get_or-set_other (slot_keys t) i j (slot_key (slot_of o m)) 0 n ∙ key_in t j h)

pub key-slot_of : (o : ℕ) (m : List ℕ) → (o ≡ 0 → ⊥) → slot_key (slot_of o m) ≡ message_key o m
unfolding slot_key slot_of
key-slot_of o m n = rw (ne_eqb o 0 n) (ap (message_key o) (held-slot_of o m))

pub key-empty : slot_key (slot_of 0 []) ≡ 0
unfolding slot_key slot_of
key-empty = refl
