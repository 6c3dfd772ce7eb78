-- The row of marks says what a table's slots say: whether they are well formed and where a tag stands. Rests on what each mark is.
-- Assumes nothing.
use Prim.Native.Nat.{ℕ, suc, ◌≤◌, ◌<◌}
use native.Mathlib.Omega.{arith}
use native.Mathlib.Decide.{ℕ_discrete}
use mathlib.Core.Path.{◌≡◌, refl, sym, ap, ◌∙◌}
use mathlib.Core.Bool.{Bool, true, false, not, ◌||◌}
use mathlib.Core.List.{List}
use lib.Dec.{eqb}
use lib.ListN.{length, get_or}
use borrow.Author.Tests.{ne_eqb}
use Rattle.arith.specs.Places.{first_of}
use Rattle.table_slots.specs.Slots.{slots, table_size, key_of, joined, slot, well_slot, tag}
use Rattle.table.specs.Table.{has_tag, place, new_key, flawed, well_slots, holding, well_formed, store_place}
use Rattle.table_slots.specs.Inner.{no_tag, marks, has_mark, mark_place, flawed_mark, sound_marks, mark_or_free}
use Rattle.table.specs.Inner.{checked_marks, Marked}
use Rattle.std.specs.Prelude.{Some, None}
use Rattle.arith.proofs.Places.{agree}
use Rattle.table_slots.proofs.Marks.{mark-well, mark-ill, tag-most, mark-in}
use Rattle.table.proofs.Whole.{unflawed, slots-first, formed}

module _ (t : List ℕ) (size : length t ≡ table_size) where
  -- where all slots are well formed, the row has a tag where the table has it
  pub place_in : (g n : ℕ) → n ≤ slots → ((k : ℕ) → k < n → well_slot (slot t k) ≡ true) → mark_place (marks t) g n ≡ place t g n
  unfolding mark_place place has_mark has_tag
  place_in g n h w =
      agree (has_tag t g) (has_mark (marks t) g) n
      (λ k l before. ap (λ (x : ℕ). eqb x g) (mark-in t size k (omega arith) ∙ mark-well (slot t k) (w k l)))

  flaw-in : (i : ℕ) → i < slots → ((k : ℕ) → k < i → flawed t k ≡ false) → flawed_mark (marks t) i ≡ flawed t i
  unfolding flawed_mark flawed new_key
  flaw-in i h before = by (well_slot (slot t i)) refl
    where
      x : ℕ
      x = get_or (marks t) i 0

      g : ℕ
      g = tag (slot t i)

      row : ℕ → Bool
      row y = eqb y no_tag || not (eqb y 0 || eqb (mark_place (marks t) y i) i)

      by : (b : Bool) → well_slot (slot t i) ≡ b → row x ≡ (not (well_slot (slot t i)) || not (new_key t i))
      by false w = ap row (mark-in t size i h ∙ mark-ill (slot t i) w) ∙ sym (ap (λ (z : Bool). not z || not (new_key t i)) w)
      by true w =
          let n : g ≡ no_tag → ⊥ = λ e. omega (arith, tag-most (slot t i) w) in
          ap row (mark-in t size i h ∙ mark-well (slot t i) w)
          ∙ ap (λ (z : Bool). z || not (eqb g 0 || eqb (mark_place (marks t) g i) i)) (ne_eqb g no_tag n)
          ∙ ap (λ (p : ℕ). not (eqb g 0 || eqb p i)) (place_in g i (omega arith) (λ k l. (unflawed t k (before k l)).0))
          ∙ sym (ap (λ (z : Bool). not z || not (new_key t i)) w)

  pub sound-sized : sound_marks (marks t) ≡ well_slots t
  unfolding sound_marks
  sound-sized =
      ap (λ (n : ℕ). eqb n slots) (agree (flawed t) (flawed_mark (marks t)) slots flaw-in)
      ∙ slots-first t (first_of (flawed t) 0 slots) size refl

sound-other : (t : List ℕ) → (length t ≡ table_size → ⊥) → sound_marks (marks t) ≡ well_slots t
unfolding sound_marks marks well_slots first_of flawed_mark
sound-other t n = rw (ne_eqb (length t) table_size n)

pub sound-marks : (t : List ℕ) → sound_marks (marks t) ≡ well_slots t
sound-marks t = by (ℕ_discrete (length t) table_size)
  where
    by : Dec (length t ≡ table_size) → sound_marks (marks t) ≡ well_slots t
    by (yes e) = sound-sized t e
    by (no n) = sound-other t n

-- ---- what a row says of the table whose marks it has

module _ (t row : List ℕ) (is : row ≡ marks t) where
  pub row-slots : {b : Bool} → b ≡ sound_marks row → well_slots t ≡ b
  row-slots e = sym (e ∙ ap sound_marks is ∙ sound-marks t)

  pub row-place : well_formed t ≡ true → (g : ℕ) → mark_place row g slots ≡ place t g slots
  row-place w g =
      let f = formed t w in
      ap (λ r. mark_place r g slots) is ∙ place_in t f.size g slots (omega arith) f.well

  pub row-store : well_formed t ≡ true → (o : ℕ) (m : List ℕ) → mark_or_free row (suc (joined o (key_of m))) (holding t o) ≡ store_place t o m
  unfolding mark_or_free store_place
  row-store w o m = rw (row-place w (suc (joined o (key_of m))), row-place w 0)

-- ---- the marks of a well-formed table

pub marked : {t row : List ℕ} → Some row ≡ checked_marks t → Marked row t
unfolding checked_marks
marked {t} {row} e = by (well_formed t) refl
  where
    by : (b : Bool) → well_formed t ≡ b → Marked row t
    by true w = let z : Some row ≡ Some (marks t) = e ∙ rw w in record { row_is = cc; whole = w }
    by false w = let z : Some row ≡ None = e ∙ rw w in cc

pub unmarked : (t : List ℕ) → ((row : List ℕ) → checked_marks t ≡ Some row → ⊥) → well_formed t ≡ false
unfolding checked_marks
unmarked t n = by (well_formed t) refl
  where
    by : (b : Bool) → well_formed t ≡ b → well_formed t ≡ false
    by true w = absurd (n (marks t) (rw w))
    by false w = w
