-- A slot replaced by store or remove: the table stays well formed, and what it holds changes under one key alone. Rests on the laws of replaced slots.
-- Assumes nothing.
use Prim.Native.Nat.{ℕ, suc, ◌≤◌, ◌<◌}
use mathlib.Core.Bool.{true}
use mathlib.Core.List.{List, []}
use mathlib.Core.Path.{◌≡◌, refl, sym, ap, ◌∙◌}
use mathlib.Core.Logic.{◌⊎◌, inl, inr, ⊎_elim}
use native.Mathlib.Omega.{arith}
use native.Mathlib.Decide.{dec_lt, ℕ_discrete}
use lib.ListN.{length}
use Rattle.message_rows.specs.Message.{refusal}
use Rattle.message_rows.proofs.Limits.{accepted-size}
use Rattle.table_slots.specs.Slots.{slots, message_size, most, is_owner, key, key_of, joined, slot, owner_at, held, well_slot, tag, slot_of}
use Rattle.table.specs.Table.{place, holding, put, store_place, key_place}
use Rattle.table.proofs.Whole.{Formed}
use Rattle.table.proofs.Calls.{store_place-old, store_place-new, store_place-most, key_place-in, key_place-out}
use Rattle.table_slots.proofs.Owner.{not_none}
use Rattle.table_slots.proofs.Slot.{tag-none, tag-says}
use Rattle.table_history.proofs.Hold.{hold-up, hold-down, hold-again, hold-kept}
use Rattle.table_history.proofs.Put.{length-put, slot_same, slot-other, held-slot_of, tag-slot_of, tag-empty, well-empty, well-slot_of}
use Rattle.table_history.proofs.Look.{place_of, Distinct, distinct, distinct-at, new-keys, Holds, Absent, look, look-holds, look-absent, look-cases}

module _ (t m : List ℕ) (i o : ℕ) (f : Formed t) (low : i < slots) (short : length m ≤ message_size) where
  same : slot (put t i o m) i ≡ slot_of o m
  same = slot_same t m i o f.size low short

  other : (j : ℕ) → j < slots → (j ≡ i → ⊥) → slot (put t i o m) j ≡ slot t j
  other j h n = slot-other t m i o f.size low short j h n

  module _ (well : well_slot (slot_of o m) ≡ true)
      (new : (j : ℕ) → j < slots → (j ≡ i → ⊥) → (tag (slot_of o m) ≡ 0 → ⊥) → tag (slot t j) ≡ tag (slot_of o m) → ⊥)
      (few : (p : ℕ) → is_owner p ≡ true → holding (put t i o m) p ≤ most) where
    well-at : (j : ℕ) → j < slots → Dec (j ≡ i) → well_slot (slot (put t i o m) j) ≡ true
    well-at j h (yes e) = ap (λ (k : ℕ). well_slot (slot (put t i o m) k)) e ∙ ap well_slot same ∙ well
    well-at j h (no n) = ap well_slot (other j h n) ∙ f.well j h

    distinct-put : Distinct (put t i o m)
    distinct-put a b ha hb n e = go (ℕ_discrete a i) (ℕ_discrete b i)
      where
        tag_of : ℕ → ℕ
        tag_of j = tag (slot (put t i o m) j)

        at : (j : ℕ) → j ≡ i → tag_of j ≡ tag (slot_of o m)
        at j q = ap tag_of q ∙ ap tag same

        out : (j : ℕ) → j < slots → (j ≡ i → ⊥) → tag_of j ≡ tag (slot t j)
        out j h q = ap tag (other j h q)

        go : Dec (a ≡ i) → Dec (b ≡ i) → a ≡ b
        go (yes p) (yes q) = p ∙ sym q
        go (yes p) (no q) = absurd (new b hb q (λ z. n (at a p ∙ z)) (sym (out b hb q) ∙ sym e ∙ at a p))
        go (no p) (yes q) = absurd (new a ha p (λ z. n (e ∙ at b q ∙ z)) (sym (out a ha p) ∙ e ∙ at b q))
        go (no p) (no q) = distinct t f a b ha hb (λ z. n (out a ha p ∙ z)) (sym (out a ha p) ∙ e ∙ out b hb q)

    pub formed-put : Formed (put t i o m)
    formed-put =
        record {
          size = length-put t m i o f.size low short;
          well = λ j h. well-at j h (ℕ_discrete j i);
          keys = new-keys (put t i o m) distinct-put;
          few = few;
        }

    -- under a key that neither the old slot nor the new one has, the table holds what it held
    pub look-put : (k : ℕ) → (tag (slot t i) ≡ suc k → ⊥) → (tag (slot_of o m) ≡ suc k → ⊥) → look (put t i o m) k ≡ look t k
    look-put k a b = ⊎_elim holds absent (look-cases t k)
      where
        holds : Holds t k (look t k) → look (put t i o m) k ≡ look t k
        holds h =
            let n : h.at ≡ i → ⊥ = λ q. a (ap (λ (j : ℕ). tag (slot t j)) (sym q) ∙ h.key) in
            let e = other h.at h.low n in
            look-holds (put t i o m) formed-put k (look t k)
            (record { at = h.at; low = h.low; key = ap tag e ∙ h.key; message = ap held e ∙ h.message })

        there : Absent t k → (j : ℕ) → j < slots → tag (slot (put t i o m) j) ≡ suc k → Dec (j ≡ i) → ⊥
        there z j h q (yes p) = b (sym (ap tag same) ∙ ap (λ (l : ℕ). tag (slot (put t i o m) l)) (sym p) ∙ q)
        there z j h q (no p) = z j h (sym (ap tag (other j h p)) ∙ q)

        absent : Absent t k → look (put t i o m) k ≡ look t k
        absent z =
            look-absent (put t i o m) k (λ j h q. there z j h q (ℕ_discrete j i)) ∙ sym (look-absent t k z)

-- ---- store

module _ (t : List ℕ) (o : ℕ) (m : List ℕ) (f : Formed t) (v : is_owner o ≡ true) (a : refusal m ≡ 0) where
  abbrev g : ℕ
  g = suc (joined o (key_of m))

  -- the slot taken is free or has the key, no other has it, and the caller may hold it
  pub record Taken (i : ℕ) : Type 0 where
    pub free : (k : ℕ) → (k ≡ joined o (key_of m) → ⊥) → tag (slot t i) ≡ suc k → ⊥
    pub alone : (j : ℕ) → j < slots → (j ≡ i → ⊥) → tag (slot t j) ≡ g → ⊥
    pub owner : (owner_at t i ≡ o) ⊎ ((owner_at t i ≡ 0) × (holding t o < most))

  taken : (i : ℕ) → i < slots → store_place t o m ≡ i → Dec (place t g slots < slots) → Dec (holding t o < most) → Taken i
  taken i l e (yes p) d =
      let q : place t g slots ≡ i = sym (store_place-old t o m p) ∙ e in
      let h : tag (slot t i) ≡ g = ap (λ (j : ℕ). tag (slot t j)) (sym q) ∙ (place_of t g slots).there p in
      record {
        free = λ k n z. n (let y : suc k ≡ g = sym z ∙ h in omega arith);
        alone = λ j u n z. n (distinct-at t f j i u l (joined o (key_of m)) z h);
        owner = inl (tag-says (slot t i) (f.well i l) o (key_of m) v h).0;
      }
  taken i l e (no p) (yes d) =
      let q : place t 0 slots ≡ i = sym (store_place-new t o m (omega arith) d) ∙ e in
      let h : tag (slot t i) ≡ 0 = ap (λ (j : ℕ). tag (slot t j)) (sym q) ∙ (place_of t 0 slots).there (omega arith) in
      record {
        free = λ k n z. (let y : ◌≡◌ {A = ℕ} 0 (suc k) = sym h ∙ z in omega arith);
        alone = λ j u n. (place_of t g slots).before j (omega arith);
        owner = inr (tag-none (slot t i) h, d);
      }
  taken i l e (no p) (no d) = absurd (let q : store_place t o m ≡ slots = store_place-most t o m (omega arith) (omega arith) in omega arith)

  module _ (l : store_place t o m < slots) where
    abbrev i : ℕ
    i = store_place t o m

    size : length m ≤ message_size
    size = (accepted-size m a).1

    tag-new : tag (slot_of o m) ≡ g
    tag-new = tag-slot_of o m (not_none o v)

    pub took : Taken i
    took = taken i l refl (dec_lt (place t g slots) slots) (dec_lt (holding t o) most)

    apart : (j : ℕ) → j < slots → (j ≡ i → ⊥) → (tag (slot_of o m) ≡ 0 → ⊥) → tag (slot t j) ≡ tag (slot_of o m) → ⊥
    apart j h n z e = took.alone j h n (e ∙ tag-new)

    few-after : (p : ℕ) → is_owner p ≡ true → holding (put t i o m) p ≤ most
    few-after p u = ⊎_elim (λ e. rw (hold-again t m i o f.size l size p e) (f.few p u)) (λ e. by e.0 e.1 (ℕ_discrete o p)) took.owner
      where
        by : owner_at t i ≡ 0 → holding t o < most → Dec (o ≡ p) → holding (put t i o m) p ≤ most
        by e h (yes q) =
            let z : holding t o ≡ holding t p = ap (holding t) q in
            omega (arith, hold-up t m i o f.size l size p (λ y. not_none p u (sym y ∙ e)) q)
        by e h (no n) = omega (arith, hold-kept t m i o f.size l size p (λ y. not_none p u (sym y ∙ e)) n, f.few p u)

    pub store-formed : Formed (put t i o m)
    store-formed = formed-put t m i o f l size (well-slot_of o m v a) apart few-after

    pub store_same : look (put t i o m) (joined o (key_of m)) ≡ m
    store_same =
        let e = same t m i o f l size in
        look-holds (put t i o m) store-formed (joined o (key_of m)) m
        (record { at = i; low = l; key = ap tag e ∙ tag-new; message = ap held e ∙ held-slot_of o m })

    pub store_other : (k : ℕ) → (k ≡ joined o (key_of m) → ⊥) → look (put t i o m) k ≡ look t k
    store_other k n =
        look-put t m i o f l size (well-slot_of o m v a) apart few-after k (took.free k n)
        (λ e. n (let y : suc k ≡ g = sym e ∙ tag-new in omega arith))

-- ---- remove

module _ (t : List ℕ) (o s g : ℕ) (f : Formed t) (v : is_owner o ≡ true) (l : key_place t o s g < slots) where
  abbrev at : ℕ
  at = key_place t o s g

  abbrev left : List ℕ
  left = put t (key_place t o s g) 0 []

  pub group-low : g < 3
  group-low = go (dec_lt g 3)
    where
      go : Dec (g < 3) → g < 3
      go (yes h) = h
      go (no h) = absurd (let e : key_place t o s g ≡ slots = key_place-out t o s g (omega arith) in omega arith)

  pub key-at : tag (slot t at) ≡ suc (joined o (key s g))
  key-at =
      let e : at ≡ place t (suc (joined o (key s g))) slots = key_place-in t o s g group-low in
      ap (λ (j : ℕ). tag (slot t j)) e ∙ (place_of t (suc (joined o (key s g))) slots).there (omega arith)

  pub owner_at_lem : owner_at t at ≡ o
  owner_at_lem = (tag-says (slot t at) (f.well at l) o (key s g) v key-at).0

  none : (j : ℕ) → j < slots → (j ≡ at → ⊥) → (tag (slot_of 0 []) ≡ 0 → ⊥) → tag (slot t j) ≡ tag (slot_of 0 []) → ⊥
  none j h n z e = z tag-empty

  fewer : (p : ℕ) → is_owner p ≡ true → holding left p ≤ most
  fewer p u = by (ℕ_discrete o p)
    where
      by : Dec (o ≡ p) → holding left p ≤ most
      by (yes q) = omega (arith, hold-down t [] at 0 f.size l (omega arith) p (owner_at_lem ∙ q) (λ z. not_none p u (sym z)), f.few p u)
      by (no n) = omega (arith, hold-kept t [] at 0 f.size l (omega arith) p (λ z. n (sym owner_at_lem ∙ z)) (λ z. not_none p u (sym z)), f.few p u)

  pub remove-formed : Formed left
  remove-formed = formed-put t [] at 0 f l (omega arith) well-empty none fewer

  pub remove-same : look left (joined o (key s g)) ≡ []
  remove-same = look-absent left (joined o (key s g)) (λ j h q. go j h q (ℕ_discrete j at))
    where
      go : (j : ℕ) → j < slots → tag (slot left j) ≡ suc (joined o (key s g)) → Dec (j ≡ at) → ⊥
      go j h q (yes p) =
          (let y : ◌≡◌ {A = ℕ} 0 (suc (joined o (key s g))) =
          sym tag-empty ∙ sym (ap tag (same t [] at 0 f l (omega arith))) ∙ ap (λ (k : ℕ). tag (slot left k)) (sym p) ∙ q in omega arith)
      go j h q (no p) =
          p (distinct-at t f j at h l (joined o (key s g)) (sym (ap tag (other t [] at 0 f l (omega arith) j h p)) ∙ q) key-at)

  pub remove-other : (k : ℕ) → (k ≡ joined o (key s g) → ⊥) → look left k ≡ look t k
  remove-other k n =
      look-put t [] at 0 f l (omega arith) well-empty none fewer k
      (λ e. n (let y : suc k ≡ suc (joined o (key s g)) = sym e ∙ key-at in omega arith))
      (λ e. (let y : ◌≡◌ {A = ℕ} 0 (suc k) = sym tag-empty ∙ e in omega arith))
