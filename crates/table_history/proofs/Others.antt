-- A call by one owner leaves the slots of the other byte for byte and shows none of them, and 12 slots are always there for the other. Rests on the laws of one call.
-- Assumes nothing.
use Prim.Native.Nat.{ℕ, ◌+◌, ◌*◌, ◌≤◌, ◌<◌}
use mathlib.Core.Bool.{Bool, true, false, cond, ◌&&◌, ◌||◌}
use mathlib.Core.List.{List, [], ◌∷◌}
use mathlib.Core.Path.{◌≡◌, refl, sym, ap, ◌∙◌}
use mathlib.Core.Logic.{⊎_elim}
use native.Mathlib.Omega.{arith}
use native.Mathlib.Decide.{dec_lt, ℕ_discrete}
use lib.ListN.{length, get_or, take, drop}
use lib.Dec.{eqb, leb}
use borrow.Author.Tests.{eq-eqb, ne_eqb, lt-ltb, lt-leb}
use Rattle.message_rows.specs.Message.{refusal, number_of, sin_of}
use Rattle.message_rows.proofs.Limits.{accepted-size}
use Rattle.table_slots.specs.Slots.{slots, message_size, most, slot_size, is_owner, group_of, key, key_of, slot, owner_at}
use Rattle.table.specs.Table.{holding, used_slots, well_formed, store_place, store_refusal, store_table, key_place, find_refusal, found_at, found_length, remove_table}
use Rattle.table.specs.Inner.{found}
use Rattle.table_history.specs.History.{Ask, store, find, remove, Call, after_all, calls_of}
use Rattle.table_history.specs.Private.{number, after, shown, walk}
use Rattle.table_history.specs.Dict.{is_new, key_number, free_number, Dicts, total, full, dict_number, entries}
use Rattle.table_slots.proofs.Owner.{not_none, by-owner}
use Rattle.table_slots.proofs.Slot.{size-byte}
use Rattle.table_slots.proofs.Marks.{group-most}
use Rattle.table.proofs.Whole.{formed}
use Rattle.table.proofs.Calls.{store-table, store-owner, store-refused, store-full, store-done, find-table, find-owner, find-passed, find-done, remove-kept}
use Rattle.table_history.proofs.Put.{slot-other}
use Rattle.table_history.proofs.Step.{took, owner_at_lem}
use Rattle.table_history.proofs.Replies.{Same, same_total, step, entries-same}

-- ---- one call, on any table

-- slot i is used by another than o
module _ (t : List ℕ) (o i : ℕ) (low : i < slots) (used : owner_at t i ≡ 0 → ⊥) (other : owner_at t i ≡ o → ⊥) where
  store-others : (m : List ℕ) → slot (store_table t o m) i ≡ slot t i
  store-others m = go (well_formed t) refl (is_owner o) refl (ℕ_discrete (refusal m) 0) (dec_lt (store_place t o m) slots)
    where
      kept : store_table t o m ≡ t → slot (store_table t o m) i ≡ slot t i
      kept e = ap (λ (u : List ℕ). slot u i) e

      go : (b : Bool) → well_formed t ≡ b → (d : Bool) → is_owner o ≡ d → Dec (refusal m ≡ 0) → Dec (store_place t o m < slots) → slot (store_table t o m) i ≡ slot t i
      go false w d v a l = kept (store-table t o m w).table
      go true w false v a l = kept (store-owner t o m w v).table
      go true w true v (no a) l = kept (store-refused t o m w v a).table
      go true w true v (yes a) (no l) = kept (store-full t o m w v a (omega arith)).table
      go true w true v (yes a) (yes l) =
          let f = formed t w in
          ap (λ (u : List ℕ). slot u i) (store-done t o m w v a l).table
          ∙ slot-other t m (store_place t o m) o f.size l (accepted-size m a).1 i low
          (λ q. ⊎_elim (λ e. other (ap (owner_at t) q ∙ e)) (λ e. used (ap (owner_at t) q ∙ e.0)) (took t o m f v a l).owner)

  remove-others : (s g : ℕ) → slot (remove_table t o s g) i ≡ slot t i
  remove-others s g = go (ℕ_discrete (find_refusal t o s g) 0)
    where
      go : Dec (find_refusal t o s g ≡ 0) → slot (remove_table t o s g) i ≡ slot t i
      go (no n) = ap (λ (u : List ℕ). slot u i) (remove-kept t o s g n)
      go (yes e) =
          let p = find-passed t o s g e in
          let f = formed t p.whole in
          ap (λ (u : List ℕ). slot u i) (find-done t o s g p.whole p.owner p.low).table
          ∙ slot-other t [] (key_place t o s g) 0 f.size p.low (omega arith) i low
          (λ q. other (ap (owner_at t) q ∙ owner_at_lem t o s g f p.owner p.low))

  -- "No call by one owner .. replaces or removes a slot of the other": it stays byte for byte as it was
  pub others-kept : (a : Ask) → slot (after t o a) i ≡ slot t i
  unfolding after
  others-kept (store m) = store-others m
  others-kept (find s g) = refl
  others-kept (remove s g) = remove-others s g

-- "No call by one owner shows .. a slot of the other": what find shows stands in a slot of the caller's
pub record Own (t : List ℕ) (o s g : ℕ) : Type 0 where
  pub at : ℕ
  pub low : at < slots
  pub owned : owner_at t at ≡ o
  pub start : found_at t o s g ≡ at * slot_size + 2
  pub size : found_length t o s g ≤ message_size

pub shown-own : (t : List ℕ) (o s g : ℕ) → find_refusal t o s g ≡ 0 → Own t o s g
shown-own t o s g e =
    let p = find-passed t o s g e in
    let f = formed t p.whole in
    let r = find-done t o s g p.whole p.owner p.low in
    record {
      at = key_place t o s g;
      low = p.low;
      owned = owner_at_lem t o s g f p.owner p.low;
      start = r.start;
      size = omega (arith, r.size, size-byte (slot t (key_place t o s g)) (f.well (key_place t o s g) p.low));
    }

-- an owner that is none is refused, after TABLE, and shown nothing
pub owner-refused : (t : List ℕ) (o : ℕ) → is_owner o ≡ false → (a : Ask) → (number t o a ≡ cond (well_formed t) 21 18) × (shown t o a ≡ [])
unfolding number shown found
owner-refused t o v a = go a (well_formed t) refl
  where
    find-refused : (s g : ℕ) (b : Bool) → well_formed t ≡ b → (find_refusal t o s g ≡ cond b 21 18) × (found t o s g ≡ [])
    find-refused s g true w = let r = find-owner t o s g w v in (r.number, ap (λ (n : ℕ). take n (drop (found_at t o s g) t)) r.size)
    find-refused s g false w = let r = find-table t o s g w in (r.number, ap (λ (n : ℕ). take n (drop (found_at t o s g) t)) r.size)

    go : (a : Ask) (b : Bool) → well_formed t ≡ b → (number t o a ≡ cond b 21 18) × (shown t o a ≡ [])
    go (store m) true w = ((store-owner t o m w v).number, refl)
    go (store m) false w = ((store-table t o m w).number, refl)
    go (find s g) b w = find-refused s g b w
    go (remove s g) b w = ((find-refused s g b w).0, refl)

-- ---- any list of calls by others

module _ (o : ℕ) (c : Call) (cs : List Call) where
  pub calls-own : c.owner ≡ o → calls_of o (c ∷ cs) ≡ c.ask ∷ calls_of o cs
  unfolding calls_of
  calls-own e = rw (eq-eqb c.owner o e, calls_of)

  pub calls-other : (c.owner ≡ o → ⊥) → calls_of o (c ∷ cs) ≡ calls_of o cs
  unfolding calls_of
  calls-other n = rw (ne_eqb c.owner o n, calls_of)

pub others-kept-all : (o : ℕ) → is_owner o ≡ true → (cs : List Call) → calls_of o cs ≡ [] → (t : List ℕ) (i : ℕ) → i < slots → owner_at t i ≡ o
    → slot (after_all walk t cs) i ≡ slot t i
unfolding after_all
others-kept-all o v [] e t i l h = refl
others-kept-all o v (c ∷ cs) e t i l h = go (ℕ_discrete c.owner o) (others-kept-all o v cs)
  where
    go : Dec (c.owner ≡ o) → (calls_of o cs ≡ [] → (u : List ℕ) (j : ℕ) → j < slots → owner_at u j ≡ o → slot (after_all walk u cs) j ≡ slot u j)
        → slot (after_all walk (after t c.owner c.ask) cs) i ≡ slot t i
    go (yes q) rest = absurd (let z = ap length (sym (calls-own o c cs q) ∙ e) in omega arith)
    go (no n) rest =
        let k = others-kept t c.owner i l (λ z. not_none o v (sym h ∙ z)) (λ z. n (sym z ∙ h)) c.ask in
        rest (sym (calls-other o c cs n) ∙ e) (after t c.owner c.ask) i l (ap (λ (x : List ℕ). get_or x 0 0) k ∙ h) ∙ k

-- ---- "hence 12 are always there for the other"

-- with the 20 of the other, fewer than 12 keys leave a slot free
module _ (t : List ℕ) (ds : Dicts) (s : Same t ds) where
  few : (p : ℕ) → is_owner p ≡ true → length (ds p) ≤ most
  few p u = omega (arith, s.count p u, s.whole.few p u)

  pub room : (o : ℕ) → is_owner o ≡ true → length (ds o) < 12 → total ds < slots
  unfolding total is_owner
  room o v =
      let a = few 1 refl in
      let b = few 2 refl in
      by-owner (λ p. length (ds p) < 12 → length (ds 1) + length (ds 2) < slots) o v (λ h. omega arith) (λ h. omega arith)

module _ (t : List ℕ) (w : well_formed t ≡ true) (o : ℕ) (v : is_owner o ≡ true) (m : List ℕ) (a : refusal m ≡ 0) where
  -- FULL exactly when the key is new to the caller and the caller holds 20 or no slot is free
  pub full-exactly : store_refusal t o m
      ≡ cond (eqb (find_refusal t o (sin_of m) (group_of (number_of m))) 17 && (leb most (holding t o) || leb slots (used_slots t))) 16 0
  unfolding number dict_number full free_number key_number key_of
  full-exactly =
      let s = entries-same t (formed t w) in
      let n = group_of (number_of m) in
      let b : Bool = is_new (entries t o) (key (sin_of m) n) in
      let f : find_refusal t o (sin_of m) n ≡ cond b 17 0 =
      (step t (entries t) o (find (sin_of m) n) s).answer ∙ rw (v, lt-ltb n 3 (omega (arith, group-most (number_of m)))) in
      (step t (entries t) o (store m) s).answer
      ∙ rw (v, a, s.count o v, same_total t (entries t) s, f, says b)
    where
      says : (b : Bool) → eqb (cond b 17 0) 17 ≡ b
      says true = refl
      says false = refl

  -- a sound message is stored while the caller holds fewer than 20 slots and fewer than 32 are used
  pub room-there : holding t o < most → used_slots t < slots → store_refusal t o m ≡ 0
  room-there h u =
      full-exactly
      ∙ rw (lt-leb most (holding t o) h, lt-leb slots (used_slots t) u) (neither (eqb (find_refusal t o (sin_of m) (group_of (number_of m))) 17))
    where
      neither : (b : Bool) → ◌≡◌ {A = ℕ} (cond (b && false) 16 0) 0
      neither true = refl
      neither false = refl

  -- and so while the caller holds fewer than 12, whatever the other holds
  pub twelve-there : holding t o < 12 → store_refusal t o m ≡ 0
  twelve-there h =
      let s = entries-same t (formed t w) in
      room-there (omega arith) (omega (arith, same_total t (entries t) s, room t (entries t) s o v (omega (arith, s.count o v))))
