-- Where a tag stands, that no key stands twice, and what a table holds under a key. Rests on what `first_of` is and what well formed says.
-- Assumes nothing.
use Prim.Native.Nat.{ℕ, suc, ◌≤◌, ◌<◌}
use mathlib.Core.Bool.{true, cond, ◌||◌}
use mathlib.Core.List.{List, []}
use mathlib.Core.Path.{◌≡◌, sym, ◌∙◌}
use mathlib.Core.Logic.{◌⊎◌, inl, inr}
use native.Mathlib.Omega.{arith}
use native.Mathlib.Decide.{dec_lt, ℕ_discrete}
use lib.Dec.{ltb, eqb}
use borrow.Author.Tests.{eqb-true, eqb-false, eq-eqb, ne_eqb, lt-ltb}
use Rattle.table_slots.specs.Slots.{slots, slot, held, tag}
use Rattle.table.specs.Table.{has_tag, place, new_key}
use Rattle.arith.proofs.Places.{first, first-is}
use Rattle.table_slots.proofs.Slot.{or_right}
use Rattle.table.proofs.Whole.{Formed}

-- the place of a tag
pub record Place (t : List ℕ) (g n r : ℕ) : Type 0 where
  pub top : r ≤ n
  pub before : (k : ℕ) → k < r → tag (slot t k) ≡ g → ⊥
  pub there : r < n → tag (slot t r) ≡ g

pub place_of : (t : List ℕ) (g n : ℕ) → Place t g n (place t g n)
unfolding place has_tag
place_of t g n =
    let f = first (has_tag t g) n in
    record {
      top = f.top;
      before = λ k h. eqb-false (tag (slot t k)) g (f.before k h);
      there = λ h. eqb-true (tag (slot t (place t g n))) g (f.holds h);
    }

pub place_is : (t : List ℕ) (g n r : ℕ) → Place t g n r → place t g n ≡ r
unfolding place has_tag
place_is t g n r p =
    first-is (has_tag t g) n r
    (record { top = p.top; before = λ k h. ne_eqb (tag (slot t k)) g (p.before k h); holds = λ h. eq-eqb (tag (slot t r)) g (p.there h) })

-- no key twice
abbrev pub Distinct : List ℕ → Type 0
Distinct t = (i j : ℕ) → i < slots → j < slots → (tag (slot t i) ≡ 0 → ⊥) → tag (slot t i) ≡ tag (slot t j) → i ≡ j

earlier : (t : List ℕ) → Formed t → (i j : ℕ) → i < j → j < slots → (tag (slot t j) ≡ 0 → ⊥) → tag (slot t i) ≡ tag (slot t j) → ⊥
unfolding new_key
earlier t f i j l h n e =
    let g : ℕ = tag (slot t j) in
    let r : place t g j ≡ j = eqb-true (place t g j) j (or_right (eqb g 0) (eqb (place t g j) j) (ne_eqb g 0 n) (f.keys j h)) in
    (place_of t g j).before i (omega arith) e

pub distinct : (t : List ℕ) → Formed t → Distinct t
distinct t f i j hi hj n e = go (dec_lt i j) (dec_lt j i)
  where
    go : Dec (i < j) → Dec (j < i) → i ≡ j
    go (yes a) d = absurd (earlier t f i j a hj (λ q. n (e ∙ q)) e)
    go (no a) (yes b) = absurd (earlier t f j i b hi n (sym e))
    go (no a) (no b) = omega arith

pub distinct-at : (t : List ℕ) → Formed t → (i j : ℕ) → i < slots → j < slots → (k : ℕ) → tag (slot t i) ≡ suc k → tag (slot t j) ≡ suc k → i ≡ j
distinct-at t f i j hi hj k a b = distinct t f i j hi hj (λ z. omega arith) (a ∙ sym b)

pub new-keys : (t : List ℕ) → Distinct t → (i : ℕ) → i < slots → new_key t i ≡ true
unfolding new_key
new-keys t d i h = go (ℕ_discrete (tag (slot t i)) 0)
  where
    go : Dec (tag (slot t i) ≡ 0) → (eqb (tag (slot t i)) 0 || eqb (place t (tag (slot t i)) i) i) ≡ true
    go (yes e) = rw (eq-eqb (tag (slot t i)) 0 e)
    go (no n) =
        rw (ne_eqb (tag (slot t i)) 0 n)
        (eq-eqb (place t (tag (slot t i)) i) i (place_is t (tag (slot t i)) i i
        (record { top = omega arith; before = λ k l e. (let q : i ≡ k = d i k h (omega arith) n (sym e) in omega arith); there = λ l. absurd (omega arith) })))

-- what a table holds under a key: in some slot, or in none
pub record Holds (t : List ℕ) (k : ℕ) (m : List ℕ) : Type 0 where
  pub at : ℕ
  pub low : at < slots
  pub key : tag (slot t at) ≡ suc k
  pub message : held (slot t at) ≡ m

abbrev pub Absent : List ℕ → ℕ → Type 0
Absent t k = (i : ℕ) → i < slots → tag (slot t i) ≡ suc k → ⊥

-- the same as a list, [] where no slot holds the key
unfoldable pub look : List ℕ → ℕ → List ℕ
look t k = cond (ltb (place t (suc k) slots) slots) (held (slot t (place t (suc k) slots))) []

pub look-holds : (t : List ℕ) → Formed t → (k : ℕ) (m : List ℕ) → Holds t k m → look t k ≡ m
unfolding look
look-holds t f k m h =
    let e : place t (suc k) slots ≡ h.at = place_is t (suc k) slots h.at
    (record {
      top = omega (arith, h.low);
      there = λ l. h.key;
      before = λ j l q. (let z : h.at ≡ j = distinct-at t f h.at j h.low (omega (arith, h.low)) k h.key q in omega arith);
    }) in
    rw (e, lt-ltb h.at slots h.low) h.message

pub look-absent : (t : List ℕ) (k : ℕ) → Absent t k → look t k ≡ []
unfolding look
look-absent t k a =
    let e : place t (suc k) slots ≡ slots = place_is t (suc k) slots slots (record { top = omega arith; there = λ l. absurd (omega arith); before = a }) in
    rw e

pub look-cases : (t : List ℕ) (k : ℕ) → Holds t k (look t k) ⊎ Absent t k
unfolding look
look-cases t k = go (dec_lt (place t (suc k) slots) slots)
  where
    go : Dec (place t (suc k) slots < slots) → Holds t k (look t k) ⊎ Absent t k
    go (yes l) = inl (record { at = place t (suc k) slots; low = l; key = (place_of t (suc k) slots).there l; message = rw (lt-ltb (place t (suc k) slots) slots l) })
    go (no l) = inr (λ i h. (place_of t (suc k) slots).before i (omega arith))
