-- What store, find and remove answer, by cases. Of the reader only what its tests answer with one more behind them.
-- Assumes nothing.
use Prim.Native.Nat.{ℕ, suc, ◌+◌, ◌*◌, ◌≤◌, ◌<◌}
use mathlib.Core.Bool.{Bool, true, false, not, cond}
use mathlib.Core.List.{List, [], ◌∷◌, ◌++◌}
use mathlib.Core.Path.{◌≡◌, refl, sym, ap, ◌∙◌}
use native.Mathlib.Omega.{arith}
use lib.ListN.{length, get_or, drop}
use lib.Seq.{get_or-take, get_or-drop}
use lib.Dec.{eqb, ltb}
use borrow.Author.Tests.{ltb-true, eq-eqb, ne_eqb, lt-ltb, le-ltb}
use native.Mathlib.Decide.{dec_lt}
use Rattle.arith.specs.First.{Test, first}
use Rattle.arith.proofs.First.{passed, not-false}
use Rattle.message_rows.specs.Message.{tests, refusal}
use Rattle.table.specs.declared.WalkFound.{WalkFound}
use Rattle.table_slots.specs.Slots.{slots, most, slot_size, is_owner, key, key_of, joined, slot}
use Rattle.table.specs.Table.{found_of, place, holding, well_formed, put, store_place, store_refusal, store_table, key_place, find_refusal, found_at, found_length, remove_table}
use Rattle.message_rows.proofs.Limits.{first-behind}
use Rattle.table.proofs.Whole.{formed}
use Rattle.table_slots.proofs.Slot.{size-byte}

-- a test that refuses where b does not hold
turned : (b : Bool) (n x : ℕ) → cond (not b) n x ≡ cond b x n
turned true n x = refl
turned false n x = refl

-- ---- store

module _ (t : List ℕ) (o : ℕ) (m : List ℕ) where
  pub record Store (n : ℕ) (t' : List ℕ) : Type 0 where
    pub number : store_refusal t o m ≡ n
    pub table : store_table t o m ≡ t'

  -- the order of the refusals: TABLE, OWNER, the reader's own, FULL
  pub store-order : store_refusal t o m ≡ cond (well_formed t) (cond (is_owner o) (cond (eqb (refusal m) 0) (cond (ltb (store_place t o m) slots) 0 16) (refusal m)) 21) 18
  unfolding store_refusal
  store-order =
      let full : List Test = (16, not (ltb (store_place t o m) slots)) ∷ [] in
      turned (well_formed t) 18 (cond (not (is_owner o)) 21 (first (tests m ++ full)))
      ∙ ap (λ n. cond (well_formed t) n 18)
      (turned (is_owner o) 21 (first (tests m ++ full))
      ∙ ap (λ n. cond (is_owner o) n 21)
      (first-behind m full ∙ ap (λ n. cond (eqb (refusal m) 0) n (refusal m)) (turned (ltb (store_place t o m) slots) 16 0)))

  pub store_kept : (store_refusal t o m ≡ 0 → ⊥) → store_table t o m ≡ t
  unfolding store_table
  store_kept h = rw (ne_eqb (store_refusal t o m) 0 h)

  refuse : (n : ℕ) → store_refusal t o m ≡ n → (n ≡ 0 → ⊥) → Store n t
  refuse n e h = record { number = e; table = store_kept (λ z. h (sym e ∙ z)) }

  pub store-table : well_formed t ≡ false → Store 18 t
  store-table w = refuse 18 (rw (store-order, w)) (λ e. omega arith)

  pub store-owner : well_formed t ≡ true → is_owner o ≡ false → Store 21 t
  store-owner w v = refuse 21 (rw (store-order, w, v)) (λ e. omega arith)

  module _ (w : well_formed t ≡ true) (v : is_owner o ≡ true) where
    pub store-refused : (refusal m ≡ 0 → ⊥) → Store (refusal m) t
    store-refused h = refuse (refusal m) (rw (store-order, w, v, ne_eqb (refusal m) 0 h)) h

    pub store-full : refusal m ≡ 0 → slots ≤ store_place t o m → Store 16 t
    store-full h f = refuse 16 (rw (store-order, w, v, eq-eqb (refusal m) 0 h, le-ltb (store_place t o m) slots f)) (λ e. omega arith)

    pub store-done : refusal m ≡ 0 → store_place t o m < slots → Store 0 (put t (store_place t o m) o m)
    unfolding store_table
    store-done h f =
        let n : store_refusal t o m ≡ 0 = rw (store-order, w, v, eq-eqb (refusal m) 0 h, lt-ltb (store_place t o m) slots f) in
        record { number = n; table = rw n }

-- ---- find and remove

module _ (t : List ℕ) (o s g : ℕ) where
  pub record Find (n a l : ℕ) (t' : List ℕ) : Type 0 where
    pub number : find_refusal t o s g ≡ n
    pub start : found_at t o s g ≡ a
    pub size : found_length t o s g ≡ l
    pub table : remove_table t o s g ≡ t'

  pub remove-kept : (find_refusal t o s g ≡ 0 → ⊥) → remove_table t o s g ≡ t
  unfolding remove_table
  remove-kept h = rw (ne_eqb (find_refusal t o s g) 0 h)

  -- the three numbers that find answers
  pub found-is : {n a l n' a' l' : ℕ} {t' : List ℕ} → Find n a l t' → n' ≡ n → a' ≡ a → l' ≡ l
      → ◌≡◌ {A = WalkFound} (record { refusal = n'; at = a'; length = l' }) (found_of t o s g)
  unfolding found_of
  found-is f x y z = rw (f.number, f.start, f.size, x, y, z)

  refused : (n : ℕ) → find_refusal t o s g ≡ n → (n ≡ 0 → ⊥) → Find n 0 0 t
  unfolding found_at found_length
  refused n e h =
      record { number = e; start = rw (e, ne_eqb n 0 h); size = rw (e, ne_eqb n 0 h); table = remove-kept (λ z. h (sym e ∙ z)) }

  pub find-table : well_formed t ≡ false → Find 18 0 0 t
  unfolding find_refusal
  find-table w = refused 18 (rw w) (λ e. omega arith)

  pub find-owner : well_formed t ≡ true → is_owner o ≡ false → Find 21 0 0 t
  unfolding find_refusal
  find-owner w v = refused 21 (rw (w, v)) (λ e. omega arith)

  module _ (w : well_formed t ≡ true) (v : is_owner o ≡ true) where
    pub find_none : slots ≤ key_place t o s g → Find 17 0 0 t
    unfolding find_refusal
    find_none f = refused 17 (rw (w, v, le-ltb (key_place t o s g) slots f)) (λ e. omega arith)

    there : key_place t o s g < slots → find_refusal t o s g ≡ 0
    unfolding find_refusal
    there f = rw (w, v, lt-ltb (key_place t o s g) slots f)

    pub find-done : key_place t o s g < slots
        → Find 0 (key_place t o s g * slot_size + 2) (get_or (slot t (key_place t o s g)) 1 0) (put t (key_place t o s g) 0 [])
    unfolding found_at found_length remove_table
    find-done f = let n = there f in record { number = n; start = rw n; size = rw n; table = rw n }

-- what an answer of 0 says
pub record Passed (t : List ℕ) (o s g : ℕ) : Type 0 where
  pub whole : well_formed t ≡ true
  pub owner : is_owner o ≡ true
  pub low : key_place t o s g < slots

pub find-passed : (t : List ℕ) (o s g : ℕ) → find_refusal t o s g ≡ 0 → Passed t o s g
unfolding find_refusal
find-passed t o s g e =
    let a = passed 17 (not (well_formed t)) _ e in
    let b = passed 20 (not (is_owner o)) _ a.1 in
    let d = passed 16 (not (ltb (key_place t o s g) slots)) _ b.1 in
    record { whole = not-false _ a.0; owner = not-false _ b.0; low = ltb-true (key_place t o s g) slots (not-false _ d.0) }

-- what find's answer says
pub record Says (t : List ℕ) (o s g : ℕ) (f : WalkFound) : Type 0 where
  pub number : f.refusal ≡ find_refusal t o s g
  pub start : f.at ≡ found_at t o s g
  pub size : f.length ≡ found_length t o s g

pub says : (t : List ℕ) (o s g : ℕ) (f : WalkFound) → f ≡ found_of t o s g → Says t o s g f
unfolding found_of
says t o s g f e = record { number = ap (λ x. x.refusal) e; start = ap (λ x. x.at) e; size = ap (λ x. x.length) e }

-- the two places, by cases
module _ (t : List ℕ) (o : ℕ) (m : List ℕ) where
  pub store_place-old : place t (suc (joined o (key_of m))) slots < slots → store_place t o m ≡ place t (suc (joined o (key_of m))) slots
  unfolding store_place
  store_place-old h = rw (lt-ltb (place t (suc (joined o (key_of m))) slots) slots h)

  module _ (h : slots ≤ place t (suc (joined o (key_of m))) slots) where
    pub store_place-new : holding t o < most → store_place t o m ≡ place t 0 slots
    unfolding store_place
    store_place-new k = rw (le-ltb (place t (suc (joined o (key_of m))) slots) slots h, lt-ltb (holding t o) most k)

    pub store_place-most : most ≤ holding t o → store_place t o m ≡ slots
    unfolding store_place
    store_place-most k = rw (le-ltb (place t (suc (joined o (key_of m))) slots) slots h, le-ltb (holding t o) most k)

pub key_place-in : (t : List ℕ) (o s g : ℕ) → g < 3 → key_place t o s g ≡ place t (suc (joined o (key s g))) slots
unfolding key_place
key_place-in t o s g h = rw (lt-ltb g 3 h)

pub key_place-out : (t : List ℕ) (o s g : ℕ) → 3 ≤ g → key_place t o s g ≡ slots
unfolding key_place
key_place-out t o s g h = rw (le-ltb g 3 h)

-- a byte of a slot, in the table
pub slot_read : (t : List ℕ) (i k : ℕ) → k < slot_size → get_or (slot t i) k 0 ≡ get_or t (i * slot_size + k) 0
unfolding slot
slot_read t i k h = get_or-take slot_size (drop (i * slot_size) t) k 0 h ∙ get_or-drop (i * slot_size) t k 0

-- the part that find shows is in the table
found-fits-by : (t : List ℕ) (o s g : ℕ) (b d : Bool) → well_formed t ≡ b → is_owner o ≡ d → Dec (key_place t o s g < slots)
    → found_at t o s g + found_length t o s g ≤ length t
found-fits-by t o s g false b w v d =
    let f = find-table t o s g w in
    omega (arith, f.start, f.size)
found-fits-by t o s g true false w v d =
    let f = find-owner t o s g w v in
    omega (arith, f.start, f.size)
found-fits-by t o s g true true w v (no d) =
    let f = find_none t o s g w v (omega arith) in
    omega (arith, f.start, f.size)
found-fits-by t o s g true true w v (yes d) =
    let f = find-done t o s g w v d in
    omega (arith, f.start, f.size, size-byte (slot t (key_place t o s g)) ((formed t w).well (key_place t o s g) d), (formed t w).size)

pub found-fits : (t : List ℕ) (o s g : ℕ) → found_at t o s g + found_length t o s g ≤ length t
found-fits t o s g = found-fits-by t o s g (well_formed t) (is_owner o) refl refl (dec_lt (key_place t o s g) slots)
