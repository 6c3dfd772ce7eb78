-- The slots of a table in which one is replaced, and the slot that holds a message. Of the reader only that an accepted message has 2 to 127 bytes.
-- Assumes nothing.
use Prim.Native.Nat.{ℕ, zero, suc, ◌+◌, ◌-◌, ◌*◌, ◌≤◌, ◌<◌}
use mathlib.Core.Bool.{true}
use mathlib.Core.List.{List, [], ◌++◌}
use mathlib.Core.Path.{◌≡◌, refl, sym, ap, ◌∙◌}
use native.Mathlib.Omega.{arith}
use native.Mathlib.Decide.{dec_lt}
use lib.ListN.{length, get_or, take, drop, replicate, length-drop, length-append, get_or-append}
use lib.Seq.{ext_get_or, get_or-take, get_or-drop, get_or-append-add, take_at, drop_at, length-take-le, take-append_seam, drop-append_seam}
use borrow.Author.Tests.{ne_eqb}
use Rattle.message_rows.specs.Message.{refusal}
use Rattle.message_rows.proofs.Limits.{accepted-size}
use Rattle.table_slots.specs.Slots.{slots, message_size, body_size, slot_size, table_size, is_owner, key_of, joined, all_zero, slot, owner_at, held, well_slot, tag, slot_of}
use Rattle.table.specs.Table.{put}
use Rattle.table_slots.proofs.Slot.{length-slot_of, length-slot, well-used}
use Rattle.table.proofs.Calls.{slot_read}

outside : (i j k : ℕ) → k < slot_size → (j ≡ i → ⊥) → Dec (j < i) → j * slot_size + k < i * slot_size + slot_size → j * slot_size + k < i * slot_size
outside i j k l n (yes d) g = omega arith
outside i j k l n (no d) g = absurd (n (omega arith))

module _ (t m : List ℕ) (i o : ℕ) (size : length t ≡ table_size) (low : i < slots) (short : length m ≤ message_size) where
  head-length : length (take (i * slot_size) t) ≡ i * slot_size
  head-length = length-take-le (i * slot_size) t (omega arith)

  pub length-put : length (put t i o m) ≡ table_size
  unfolding put
  length-put =
      let a : length (slot_of o m) ≡ slot_size = length-slot_of o m short in
      simp (length-append, length-drop) (omega (arith, head-length))

  pub slot_same : slot (put t i o m) i ≡ slot_of o m
  unfolding slot put
  slot_same =
      ap (λ (l : List ℕ). take slot_size l) (drop_at (take (i * slot_size) t) (slot_of o m ++ drop (i * slot_size + slot_size) t) (i * slot_size) head-length)
      ∙ take_at (slot_of o m) (drop (i * slot_size + slot_size) t) slot_size (length-slot_of o m short)

  get_d-below : (k : ℕ) → k < i * slot_size → get_or (put t i o m) k 0 ≡ get_or t k 0
  unfolding put
  get_d-below k h =
      get_or-append (take (i * slot_size) t) (slot_of o m ++ drop (i * slot_size + slot_size) t) 0 k (omega (arith, head-length))
      ∙ get_or-take (i * slot_size) t k 0 h

  get_d-above : (k : ℕ) → get_or (put t i o m) (i * slot_size + (slot_size + k)) 0 ≡ get_or t (i * slot_size + slot_size + k) 0
  unfolding put
  get_d-above k =
      ap (λ (n : ℕ). get_or (take (i * slot_size) t ++ (slot_of o m ++ drop (i * slot_size + slot_size) t)) (n + (slot_size + k)) 0) (sym head-length)
      ∙ get_or-append-add (take (i * slot_size) t) (slot_of o m ++ drop (i * slot_size + slot_size) t) (slot_size + k) 0
      ∙ ap (λ (n : ℕ). get_or (slot_of o m ++ drop (i * slot_size + slot_size) t) (n + k) 0) (sym (length-slot_of o m short))
      ∙ get_or-append-add (slot_of o m) (drop (i * slot_size + slot_size) t) k 0
      ∙ get_or-drop (i * slot_size + slot_size) t k 0

  get_d-out : (k : ℕ) → Dec (k < i * slot_size) → (k < i * slot_size + slot_size → k < i * slot_size) → get_or (put t i o m) k 0 ≡ get_or t k 0
  get_d-out k (yes h) out = get_d-below k h
  get_d-out k (no h) out =
      let r : ℕ = k - (i * slot_size + slot_size) in
      let above : i * slot_size + slot_size ≤ k = go (dec_lt k (i * slot_size + slot_size)) in
      let e : i * slot_size + (slot_size + r) ≡ k = omega arith in
      let f : i * slot_size + slot_size + r ≡ k = omega arith in
      ap (λ (n : ℕ). get_or (put t i o m) n 0) (sym e) ∙ get_d-above r ∙ ap (λ (n : ℕ). get_or t n 0) f
    where
      go : Dec (k < i * slot_size + slot_size) → i * slot_size + slot_size ≤ k
      go (yes g) = absurd (h (out g))
      go (no g) = omega arith

  pub slot-other : (j : ℕ) → j < slots → (j ≡ i → ⊥) → slot (put t i o m) j ≡ slot t j
  slot-other j h n =
      ext_get_or 0 (slot (put t i o m) j) (slot t j) (length-slot (put t i o m) j length-put h ∙ sym (length-slot t j size h)) at
    where
      at : (k : ℕ) → k < length (slot (put t i o m) j) → get_or (slot (put t i o m) j) k 0 ≡ get_or (slot t j) k 0
      at k g =
          let l : k < slot_size = omega (arith, length-slot (put t i o m) j length-put h) in
          slot_read (put t i o m) j k l ∙ get_d-out (j * slot_size + k) (dec_lt (j * slot_size + k) (i * slot_size)) (outside i j k l n (dec_lt j i)) ∙ sym (slot_read t j k l)

  pub owner-same : owner_at (put t i o m) i ≡ o
  unfolding slot_of
  owner-same = ap (λ (l : List ℕ). get_or l 0 0) slot_same

  pub owner-other : (j : ℕ) → j < slots → (j ≡ i → ⊥) → owner_at (put t i o m) j ≡ owner_at t j
  owner-other j h n = ap (λ (l : List ℕ). get_or l 0 0) (slot-other j h n)

all-zero : (n : ℕ) → all_zero (replicate n 0) ≡ true
unfolding all_zero
all-zero zero = refl
all-zero (suc n) = all-zero n

-- the slot that holds m
module _ (o : ℕ) (m : List ℕ) where
  pub held-slot_of : held (slot_of o m) ≡ m
  unfolding held slot_of
  held-slot_of = take-append_seam m (replicate (body_size - length m) 0)

  pub tag-slot_of : (o ≡ 0 → ⊥) → tag (slot_of o m) ≡ suc (joined o (key_of m))
  unfolding tag slot_of
  tag-slot_of n = rw (ne_eqb o 0 n) (ap (λ (l : List ℕ). suc (joined o (key_of l))) held-slot_of)

  slot_of-rest : all_zero (drop (2 + length m) (slot_of o m)) ≡ true
  unfolding slot_of
  slot_of-rest =
      let e : 2 + length m ≡ suc (suc (length m)) = omega arith in
      rw e (ap all_zero (drop-append_seam m (replicate (body_size - length m) 0)) ∙ all-zero (body_size - length m))

  pub well-slot_of : is_owner o ≡ true → refusal m ≡ 0 → well_slot (slot_of o m) ≡ true
  unfolding slot_of
  well-slot_of v a =
      let z = accepted-size m a in
      sym (well-used (slot_of o m) (length-slot_of o m z.1) v z.1 (ap refusal held-slot_of ∙ a)) ∙ slot_of-rest

pub tag-empty : tag (slot_of 0 []) ≡ 0
unfolding tag slot_of
tag-empty = refl

pub well-empty : well_slot (slot_of 0 []) ≡ true
unfolding well_slot slot_of all_zero
well-empty = refl
