-- A well-formed table: its size, its slots, its keys and how many slots an owner holds. Rests on what `first_of` is.
-- Assumes nothing.
use Prim.Native.Nat.{ℕ, ◌≤◌, ◌<◌}
use mathlib.Core.Bool.{true, false, not, ◌&&◌}
use mathlib.Core.List.{List}
use mathlib.Core.Path.{◌≡◌, refl, sym, subst}
use native.Mathlib.Omega.{arith}
use lib.ListN.{length}
use lib.Dec.{eqb, leb}
use borrow.Author.Tests.{eqb-true, eq-eqb, leb-true, le-leb}
use Rattle.arith.specs.Places.{first_of}
use Rattle.table_slots.specs.Slots.{slots, table_size, most, is_owner, well_slot, slot}
use Rattle.table.specs.Table.{new_key, flawed, well_slots, holding, well_formed}
use Rattle.arith.proofs.Places.{First, first, first-is}
use Rattle.table_slots.proofs.Owner.{by-owner}
use Rattle.arith.proofs.First.{or-false, not-false}
use Rattle.arith.proofs.Tests.{both_first, both-second}

pub unflawed : (t : List ℕ) (i : ℕ) → flawed t i ≡ false → (well_slot (slot t i) ≡ true) × (new_key t i ≡ true)
unfolding flawed
unflawed t i e =
    let p = or-false (not (well_slot (slot t i))) (not (new_key t i)) e in
    (not-false _ p.0, not-false _ p.1)

pub slots-first : (t : List ℕ) (n : ℕ) → length t ≡ table_size → first_of (flawed t) 0 slots ≡ n → eqb n slots ≡ well_slots t
unfolding well_slots
slots-first t n h e = rw (eq-eqb (length t) table_size h, e)

pub slots-size : (t : List ℕ) → well_slots t ≡ true → length t ≡ table_size
unfolding well_slots
slots-size t w = eqb-true (length t) table_size (both_first _ (eqb (first_of (flawed t) 0 slots) slots) w)

-- what well formed says
pub record Formed (t : List ℕ) : Type 0 where
  pub size : length t ≡ table_size
  pub well : (i : ℕ) → i < slots → well_slot (slot t i) ≡ true
  pub keys : (i : ℕ) → i < slots → new_key t i ≡ true
  pub few : (o : ℕ) → is_owner o ≡ true → holding t o ≤ most

pub formed : (t : List ℕ) → well_formed t ≡ true → Formed t
unfolding well_formed well_slots
formed t w =
    let v : well_slots t ≡ true = both_first (well_slots t) (leb (holding t 1) most && leb (holding t 2) most) w in
    let n = both-second (well_slots t) (leb (holding t 1) most && leb (holding t 2) most) w in
    let f : First (flawed t) slots slots = subst (λ (r : ℕ). First (flawed t) slots r) (eqb-true (first_of (flawed t) 0 slots) slots (both-second (eqb (length t) table_size) _ v)) (first (flawed t) slots) in
    record {
      size = slots-size t v;
      well = λ i h. (unflawed t i (f.before i h)).0;
      keys = λ i h. (unflawed t i (f.before i h)).1;
      few = λ o e. by-owner (λ p. holding t p ≤ most) o e (leb-true (holding t 1) most (both_first _ _ n)) (leb-true (holding t 2) most (both-second (leb (holding t 1) most) _ n));
    }

pub well-formed : (t : List ℕ) → Formed t → well_formed t ≡ true
unfolding well_formed flawed is_owner
well-formed t f =
    let v : well_slots t ≡ true = sym (slots-first t slots f.size (first-is (flawed t) slots slots
    (record { top = omega arith; before = λ i h. rw (f.well i h, f.keys i h); holds = λ h. absurd (omega arith) }))) in
    rw (v, le-leb (holding t 1) most (f.few 1 refl), le-leb (holding t 2) most (f.few 2 refl))
