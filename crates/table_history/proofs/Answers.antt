-- What find answers after any list of calls. Rests on what the table then holds under each owner's key.
-- Assumes nothing.
use Prim.Native.Nat.{ℕ, suc, ◌+◌, ◌*◌, ◌≤◌, ◌<◌}
use mathlib.Core.Bool.{true, false, cond}
use mathlib.Core.List.{List, [], ◌∷◌}
use mathlib.Core.Path.{◌≡◌, refl, sym, ap, subst, ◌∙◌}
use native.Mathlib.Omega.{arith}
use native.Mathlib.Decide.{dec_lt}
use lib.ListN.{length, get_or, take, drop}
use lib.Seq.{drop-drop, take-take}
use lib.Dec.{eqb}
use borrow.Author.Tests.{ne_eqb, lt-ltb, le-ltb}
use Rattle.table_slots.specs.Slots.{slots, message_size, body_size, slot_size, is_owner, key, joined, slot, held}
use Rattle.table.specs.Table.{place, well_formed, key_place, find_refusal, found_at}
use Rattle.table.specs.Inner.{found}
use Rattle.table_history.specs.History.{Call, after_all, log_of, last_of}
use Rattle.table_history.specs.Private.{walk}
use Rattle.table.proofs.Whole.{Formed, formed, well-formed}
use Rattle.table_slots.proofs.Slot.{size-byte, used-size, tag_free}
use Rattle.table.proofs.Calls.{Find, find-owner, find_none, find-done, key_place-in, key_place-out}
use Rattle.table_history.proofs.Look.{place_of, look}
use Rattle.table_history.proofs.Last.{history, history-formed}

inner : (n : ℕ) (l : List ℕ) → n ≤ message_size → take n (drop 2 (take slot_size l)) ≡ take n (drop 2 l)
inner n [] h = refl
inner n (x ∷ []) h = refl
inner n (x ∷ y ∷ xs) h = take-take n body_size xs (omega arith)

-- the part shown is what the slot holds
pub part-shown : (t : List ℕ) (i : ℕ) → get_or (slot t i) 1 0 ≤ message_size → take (get_or (slot t i) 1 0) (drop (i * slot_size + 2) t) ≡ held (slot t i)
unfolding held slot
part-shown t i h =
    sym (inner (get_or (slot t i) 1 0) (drop (i * slot_size) t) h
    ∙ ap (λ (l : List ℕ). take (get_or (slot t i) 1 0) l) (drop-drop 2 (i * slot_size) t))

-- what find shows and answers where m is under the key, and where it refuses
pub record Answer (t : List ℕ) (o s g : ℕ) (m : List ℕ) (n : ℕ) : Type 0 where
  pub shown : found t o s g ≡ m
  pub number : find_refusal t o s g ≡ n

-- 0 where there is a message, else 17
abbrev pub none_of : List ℕ → ℕ
none_of m = cond (eqb (length m) 0) 17 0

empty : (t : List ℕ) (o s g n : ℕ) → Find t o s g n 0 0 t → Answer t o s g [] n
unfolding found
empty t o s g n r = record { shown = ap (λ (a : ℕ). take a (drop (found_at t o s g) t)) r.size; number = r.number }

pub find-look : (t : List ℕ) → Formed t → (o s g : ℕ) → is_owner o ≡ true → g < 3
    → Answer t o s g (look t (joined o (key s g))) (none_of (look t (joined o (key s g))))
unfolding look found
find-look t f o s g v h = go (dec_lt (place t (suc k) slots) slots)
  where
    k : ℕ
    k = joined o (key s g)

    i : ℕ
    i = place t (suc k) slots

    e : key_place t o s g ≡ i
    e = key_place-in t o s g h

    go : Dec (i < slots) → Answer t o s g (look t k) (none_of (look t k))
    go (yes l) =
        let r = find-done t o s g (well-formed t f) v (omega (arith, e)) in
        let w = f.well i l in
        let n : get_or (slot t i) 0 0 ≡ 0 → ⊥ = λ z. (let y : ◌≡◌ {A = ℕ} 0 (suc k) = sym (tag_free (slot t i) z) ∙ (place_of t (suc k) slots).there l in omega arith) in
        let b : length (held (slot t i)) ≡ 0 → ⊥ = λ z. omega (arith, (used-size (slot t i) w n).0) in
        record {
          shown =
              rw (lt-ltb i slots l)
              (ap (λ (a : ℕ). take a (drop (found_at t o s g) t)) (r.size ∙ ap (λ (j : ℕ). get_or (slot t j) 1 0) e)
              ∙ ap (λ (a : ℕ). take (get_or (slot t i) 1 0) (drop a t)) (r.start ∙ ap (λ (j : ℕ). j * slot_size + 2) e)
              ∙ part-shown t i (size-byte (slot t i) w));
          number = rw (lt-ltb i slots l, ne_eqb (length (held (slot t i))) 0 b) r.number;
        }
    go (no l) =
        let r = empty t o s g 17 (find_none t o s g (well-formed t f) v (omega (arith, e))) in
        record { shown = rw (le-ltb i slots (omega arith)) r.shown; number = rw (le-ltb i slots (omega arith)) r.number }

-- no key has a group above 2
pub find-other : (t : List ℕ) → Formed t → (o s g : ℕ) → is_owner o ≡ true → 3 ≤ g → Answer t o s g [] 17
find-other t f o s g v h = empty t o s g 17 (find_none t o s g (well-formed t f) v (omega (arith, key_place-out t o s g h)))

-- and no owner is other than 1 and 2
pub find-stranger : (t : List ℕ) → Formed t → (o s g : ℕ) → is_owner o ≡ false → Answer t o s g [] 21
find-stranger t f o s g v = empty t o s g 21 (find-owner t o s g (well-formed t f) v)

-- DEMAND 2, the table, for each owner: after any calls on a well-formed table, find shows what the owner last stored under the
-- key and did not remove since, where what the table held at first counts as stored; its number is 0 where there is such, else 17.
pub find-last : (t : List ℕ) → well_formed t ≡ true → (cs : List Call) (o s g : ℕ) → is_owner o ≡ true → g < 3
    → Answer (after_all walk t cs) o s g (last_of o (key s g) (found t o s g) (log_of walk t cs)) (none_of (last_of o (key s g) (found t o s g) (log_of walk t cs)))
find-last t w cs o s g v h =
    let f = formed t w in
    subst (λ (m : List ℕ). Answer (after_all walk t cs) o s g m (none_of m))
    (history t f cs o (key s g) v ∙ ap (λ (m : List ℕ). last_of o (key s g) m (log_of walk t cs)) (sym (find-look t f o s g v h).shown))
    (find-look (after_all walk t cs) (history-formed t f cs) o s g v h)

-- and for a group that is not 0 to 2 it shows nothing and answers 17
pub find-no-group : (t : List ℕ) → well_formed t ≡ true → (cs : List Call) (o s g : ℕ) → is_owner o ≡ true → 3 ≤ g → Answer (after_all walk t cs) o s g [] 17
find-no-group t w cs o s g v h = find-other (after_all walk t cs) (history-formed t (formed t w) cs) o s g v h
