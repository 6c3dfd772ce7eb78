-- A slot: what it holds, its tag, when it is well formed, and the slot that holds a message. Of the reader only that an accepted message has 2 to 127 bytes.
-- Assumes nothing.
use Prim.Native.Nat.{ℕ, zero, suc, ◌+◌, ◌-◌, ◌*◌, ◌≤◌, ◌<◌}
use mathlib.Core.Bool.{Bool, true, false, ◌&&◌, ◌||◌, and_assoc}
use mathlib.Core.List.{List, [], ◌∷◌}
use Rattle.std.specs.List.{fold}
use Prim.Native.Nat.{max}
use mathlib.Core.Path.{◌≡◌, refl, sym, ◌∙◌}
use native.Mathlib.Omega.{arith}
use native.Mathlib.Decide.{ℕ_discrete}
use lib.ListN.{length, get_or, take, drop, length-drop, length-take, length-append, length-replicate}
use lib.Seq.{take_all}
use Rattle.arith.proofs.Tests.{both_first, both-second, false-ne-true}
use Rattle.table_slots.proofs.Owner.{not_none, joined_same}
use lib.Dec.{eqb}
use borrow.Author.Tests.{eqb-true, eq-eqb, ne_eqb}
use Rattle.message_rows.specs.Message.{refusal}
use Rattle.message_rows.proofs.Limits.{accepted-size}
use Rattle.table_slots.specs.Slots.{slots, message_size, slot_size, table_size, is_owner, key_of, joined, all_zero, held, used, well_slot, tag, slot, slot_of}

-- the greatest of numbers is 0 where all are
greater-zero : (a b : ℕ) → eqb (max a b) 0 ≡ (eqb a 0 && eqb b 0)
greater-zero a b = grind arith

greatest-from : (s : List ℕ) (n : ℕ) → eqb (fold max n s) 0 ≡ (eqb n 0 && all_zero s)
unfolding all_zero
greatest-from [] n = grind arith
greatest-from (x ∷ xs) n = greatest-from xs (max n x) ∙ rw greater-zero (and_assoc (eqb n 0) (eqb x 0) (all_zero xs))

pub greatest-zero : (s : List ℕ) → eqb (fold max 0 s) 0 ≡ all_zero s
greatest-zero s = greatest-from s 0

pub zero-at : (s : List ℕ) (i : ℕ) → all_zero s ≡ true → get_or s i 0 ≡ 0
unfolding all_zero
zero-at [] i e = refl
zero-at (x ∷ xs) zero e = eqb-true x 0 (both_first (eqb x 0) (all_zero xs) e)
zero-at (x ∷ xs) (suc i) e = zero-at xs i (both-second (eqb x 0) (all_zero xs) e)

pub length-slot_of : (o : ℕ) (m : List ℕ) → length m ≤ message_size → length (slot_of o m) ≡ slot_size
unfolding slot_of
length-slot_of o m h = simp (length-append, length-replicate) (omega arith)

pub length-slot : (t : List ℕ) (i : ℕ) → length t ≡ table_size → i < slots → length (slot t i) ≡ slot_size
unfolding slot
length-slot t i h k = simp (length-take, length-drop) (omega arith)

-- the part from i * slot_size to i * slot_size + slot_size
pub part-slot : (t : List ℕ) (i : ℕ) → take (i * slot_size + slot_size - i * slot_size) (drop (i * slot_size) t) ≡ slot t i
unfolding slot
part-slot t i =
    let e : i * slot_size + slot_size - i * slot_size ≡ slot_size = omega arith in
    rw e

-- a used slot that is well formed
pub record Used (s : List ℕ) : Type 0 where
  pub owner : is_owner (get_or s 0 0) ≡ true
  pub size : length (held s) ≡ get_or s 1 0
  pub accepted : refusal (held s) ≡ 0
  pub rest : all_zero (drop (2 + get_or s 1 0) s) ≡ true

pub or_right : (a b : Bool) → a ≡ false → (a || b) ≡ true → b ≡ true
or_right a b e h = rw e at h

pub not-zero : (s : List ℕ) → (get_or s 0 0 ≡ 0 → ⊥) → all_zero s ≡ false
not-zero s h = go (all_zero s) refl
  where
    go : (b : Bool) → all_zero s ≡ b → b ≡ false
    go true e = absurd (h (zero-at s 0 e))
    go false e = refl

pub used-of : (s : List ℕ) → well_slot s ≡ true → (get_or s 0 0 ≡ 0 → ⊥) → Used s
unfolding well_slot used
used-of s w h =
    let u : used s ≡ true = or_right (all_zero s) (used s) (not-zero s h) w in
    let r : Bool = all_zero (drop (2 + get_or s 1 0) s) in
    let a : Bool = eqb (refusal (held s)) 0 in
    let l : Bool = eqb (length (held s)) (get_or s 1 0) in
    let b = both-second (is_owner (get_or s 0 0)) (l && (a && r)) u in
    let d = both-second l (a && r) b in
    record {
      owner = both_first (is_owner (get_or s 0 0)) (l && (a && r)) u;
      size = eqb-true (length (held s)) (get_or s 1 0) (both_first l (a && r) b);
      accepted = eqb-true (refusal (held s)) 0 (both_first a r d);
      rest = both-second a r d;
    }

-- a used slot's message: the part from 2 to 2 + n
pub part_held : (s : List ℕ) → take (2 + get_or s 1 0 - 2) (drop 2 s) ≡ held s
unfolding held
part_held s =
    let e : 2 + get_or s 1 0 - 2 ≡ get_or s 1 0 = omega arith in
    rw e

pub tag_free : (s : List ℕ) → get_or s 0 0 ≡ 0 → tag s ≡ 0
unfolding tag
tag_free s h = rw (eq-eqb (get_or s 0 0) 0 h)

pub tag-used : (s : List ℕ) → (get_or s 0 0 ≡ 0 → ⊥) → tag s ≡ suc (joined (get_or s 0 0) (key_of (held s)))
unfolding tag
tag-used s h = rw (ne_eqb (get_or s 0 0) 0 h)

length-held : (s : List ℕ) → length s ≡ slot_size → get_or s 1 0 ≤ message_size → length (held s) ≡ get_or s 1 0
unfolding held
length-held s h k = simp (length-take, length-drop) (omega arith)

-- well formed or not, by cases
pub well-free : (s : List ℕ) → get_or s 0 0 ≡ 0 → all_zero s ≡ well_slot s
unfolding well_slot used is_owner
well-free s h = rw h (or-none (all_zero s))
  where
    or-none : (b : Bool) → b ≡ (b || false)
    or-none true = refl
    or-none false = refl

-- a slot with an owner byte that is no used slot
ill : (s : List ℕ) → (get_or s 0 0 ≡ 0 → ⊥) → (Used s → ⊥) → well_slot s ≡ false
ill s n u = go (well_slot s) refl
  where
    go : (b : Bool) → well_slot s ≡ b → b ≡ false
    go true w = absurd (u (used-of s w n))
    go false w = refl

pub ill-owner : (s : List ℕ) → (get_or s 0 0 ≡ 0 → ⊥) → is_owner (get_or s 0 0) ≡ false → well_slot s ≡ false
ill-owner s n a = ill s n (λ u. false-ne-true (sym a ∙ u.owner))

pub ill-long : (s : List ℕ) → (get_or s 0 0 ≡ 0 → ⊥) → message_size < get_or s 1 0 → well_slot s ≡ false
ill-long s n k = ill s n (λ u. omega (arith, (accepted-size (held s) u.accepted).1, u.size))

pub ill-refused : (s : List ℕ) → (get_or s 0 0 ≡ 0 → ⊥) → (refusal (held s) ≡ 0 → ⊥) → well_slot s ≡ false
ill-refused s n a = ill s n (λ u. a u.accepted)

pub ill-rest : (s : List ℕ) → (get_or s 0 0 ≡ 0 → ⊥) → all_zero (drop (2 + get_or s 1 0) s) ≡ false → well_slot s ≡ false
ill-rest s n a = ill s n (λ u. false-ne-true (sym a ∙ u.rest))

pub well-used : (s : List ℕ) → length s ≡ slot_size → is_owner (get_or s 0 0) ≡ true → get_or s 1 0 ≤ message_size → refusal (held s) ≡ 0
    → all_zero (drop (2 + get_or s 1 0) s) ≡ well_slot s
unfolding well_slot used
well-used s h o k a =
    rw (not-zero s (not_none _ o), o, eq-eqb (length (held s)) (get_or s 1 0) (length-held s h k), eq-eqb (refusal (held s)) 0 a)

-- the length byte of a well-formed used slot
pub used-size : (s : List ℕ) → well_slot s ≡ true → (get_or s 0 0 ≡ 0 → ⊥) → (2 ≤ length (held s)) × (get_or s 1 0 ≤ message_size)
used-size s w h =
    let u = used-of s w h in
    let z = accepted-size (held s) u.accepted in
    (z.0, omega (arith, z.1, u.size))

-- the part from e to the end
pub part-rest : (s : List ℕ) (e : ℕ) → length s ≡ slot_size → take (slot_size - e) (drop e s) ≡ drop e s
part-rest s e h = take_all (slot_size - e) (drop e s) (omega (arith, length-drop e s))

pub size-byte : (s : List ℕ) → well_slot s ≡ true → get_or s 1 0 ≤ message_size
size-byte s w = go (ℕ_discrete (get_or s 0 0) 0)
  where
    go : Dec (get_or s 0 0 ≡ 0) → get_or s 1 0 ≤ message_size
    go (yes h) = omega (arith, zero-at s 1 (well-free s h ∙ w))
    go (no h) = (used-size s w h).1

-- what a slot's tag says of its owner and key
pub tag-none : (s : List ℕ) → tag s ≡ 0 → get_or s 0 0 ≡ 0
tag-none s e = go (ℕ_discrete (get_or s 0 0) 0)
  where
    go : Dec (get_or s 0 0 ≡ 0) → get_or s 0 0 ≡ 0
    go (yes h) = h
    go (no h) = absurd (omega (arith, tag-used s h))

pub tag-says : (s : List ℕ) → well_slot s ≡ true → (o k : ℕ) → is_owner o ≡ true → tag s ≡ suc (joined o k) → (get_or s 0 0 ≡ o) × (key_of (held s) ≡ k)
tag-says s w o k a e =
    let h : get_or s 0 0 ≡ 0 → ⊥ = λ z. (let y : ◌≡◌ {A = ℕ} 0 (suc (joined o k)) = sym (tag_free s z) ∙ e in omega arith) in
    let q : suc (joined (get_or s 0 0) (key_of (held s))) ≡ suc (joined o k) = sym (tag-used s h) ∙ e in
    joined_same (get_or s 0 0) o (key_of (held s)) k (used-of s w h).owner a (omega arith)
