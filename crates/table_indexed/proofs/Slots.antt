-- The keys of a table's slots from its row of marks, and a used slot by its mark. Of the reader only that a SIN is below 256.
-- Assumes nothing.
use Prim.Native.Nat.{ℕ, suc, ◌-◌, ◌/◌, ◌%◌, ◌≤◌, ◌<◌}
use native.Mathlib.Omega.{arith}
use native.Mathlib.Decide.{ℕ_discrete}
use mathlib.Core.Path.{◌≡◌, refl, sym, ap, ◌∙◌}
use mathlib.Core.Bool.{Bool, true, false, ◌&&◌, ◌||◌}
use mathlib.Core.List.{List}
use lib.Dec.{eqb}
use lib.ListN.{get_or}
use borrow.Author.Tests.{eq-eqb, ne_eqb}
use Rattle.arith.specs.Lists.{up_to}
use Rattle.arith.proofs.Lists.{up_to-same}
use Rattle.message_rows.specs.Message.{number_of, sin_of}
use Rattle.message_rows.proofs.Limits.{sin-most}
use Rattle.table_slots.specs.Slots.{slots, group_of, key, key_of, joined, slot, held, all_zero, used, well_slot, tag}
use Rattle.table_slots.specs.Inner.{no_tag, mark, marks}
use Rattle.table_slots.proofs.Owner.{owner-range}
use Rattle.table_slots.proofs.Slot.{tag_free, tag-used, used-of, or_right, not-zero}
use Rattle.table_slots.proofs.Marks.{mark-well, mark-ill, group-most, mark-in}
use Rattle.table.specs.Table.{well_formed}
use Rattle.table.proofs.Whole.{formed}
use Rattle.table_indexed.specs.Indexed.{entry_key, message_key, slot_key, slot_key_at, slot_keys}
use Rattle.table_indexed.specs.Find.{used_by}
use Rattle.table_indexed.specs.Private.{mark_key, mark_key_at}

-- ---- keys

pub key-free : (s : List ℕ) → get_or s 0 0 ≡ 0 → slot_key s ≡ 0
unfolding slot_key
key-free s h = rw (eq-eqb (get_or s 0 0) 0 h)

pub key-used : (s : List ℕ) → (get_or s 0 0 ≡ 0 → ⊥) → slot_key s ≡ message_key (get_or s 0 0) (held s)
unfolding slot_key
key-used s h = rw (ne_eqb (get_or s 0 0) 0 h)

-- the key of an owner, a SIN and a group from their tag
tag-key : (o s g : ℕ) → o ≤ 2 → s < 256 → g ≤ 2 → mark_key (suc (joined o (key s g))) ≡ entry_key o s g
unfolding mark_key
tag-key o s g h k l =
    let n : ℕ = joined o (key s g) in
    let a : n % 3 ≡ o = omega arith in
    let b : n / 9 ≡ s = omega arith in
    let d : n / 3 ≡ key s g = omega arith in
    let e : key s g % 3 ≡ g = omega arith in
    let f : s % 256 ≡ s = omega arith in
    let z : suc n - 1 ≡ n = omega arith in
    rw (ne_eqb (suc n) 0 (λ q. omega arith), z, a, b, d, e, f)

pub mark-key : (s : List ℕ) → well_slot s ≡ true → mark_key (tag s) ≡ slot_key s
unfolding mark_key key_of message_key
mark-key s w = by (ℕ_discrete (get_or s 0 0) 0)
  where
    m : List ℕ
    m = held s

    by : Dec (get_or s 0 0 ≡ 0) → mark_key (tag s) ≡ slot_key s
    by (yes e) = ap mark_key (tag_free s e) ∙ sym (key-free s e)
    by (no n) =
        ap mark_key (tag-used s n)
        ∙ tag-key (get_or s 0 0) (sin_of m) (group_of (number_of m)) (owner-range (get_or s 0 0) (used-of s w n).owner).1 (sin-most m) (group-most (number_of m))
        ∙ sym (key-used s n)

-- the row of a well-formed table
pub row-keys : (t row : List ℕ) → well_formed t ≡ true → row ≡ marks t → up_to (mark_key_at row) slots ≡ slot_keys t
unfolding slot_keys mark_key_at slot_key_at
row-keys t row w e =
    let f = formed t w in
    up_to-same (mark_key_at row) (slot_key_at t) slots
    (λ i h. ap (λ (r : List ℕ). mark_key (get_or r i 0)) e ∙ ap mark_key (mark-in t f.size i h ∙ mark-well (slot t i) (f.well i h)) ∙ mark-key (slot t i) (f.well i h))

-- ---- a used slot of a key

and-false : (b : Bool) → (b && false) ≡ false
and-false true = refl
and-false false = refl

or-last : (a b : Bool) → (a || b) ≡ false → b ≡ false
or-last true b e = absurd (let z : ◌≡◌ {A = ℕ} 0 1 = cc in omega arith)
or-last false b e = e

pub used-mark : (s : List ℕ) (o n g : ℕ) → o ≤ 2 → n < 256 → g ≤ 2 → eqb (mark s) (suc (joined o (key n g))) ≡ used_by s o n g
unfolding used_by well_slot
used-mark s o n g h k l = by (well_slot s) (ℕ_discrete (get_or s 0 0) 0) refl
  where
    T : ℕ
    T = suc (joined o (key n g))

    none : well_slot s ≡ false → used s ≡ false
    none w = or-last (all_zero s) (used s) w

    some : well_slot s ≡ true → (get_or s 0 0 ≡ 0 → ⊥) → used s ≡ true
    some w d = or_right (all_zero s) (used s) (not-zero s d) w

    by : (b : Bool) → Dec (get_or s 0 0 ≡ 0) → well_slot s ≡ b → eqb (mark s) T ≡ (used s && eqb (tag s) T)
    by false d w = rw (mark-ill s w, none w) (ne_eqb no_tag T (λ q. omega arith))
    by true (yes e) w = rw (mark-well s w, tag_free s e, ne_eqb 0 T (λ q. omega arith)) (sym (and-false (used s)))
    by true (no d) w = rw (mark-well s w, some w d)

pub used-well : (s : List ℕ) → used s ≡ true → well_slot s ≡ true
unfolding well_slot
used-well s u = rw u (or-true (all_zero s))
  where
    or-true : (b : Bool) → (b || true) ≡ true
    or-true true = refl
    or-true false = refl
