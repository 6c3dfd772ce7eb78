-- The tests of agreement, case by case as the code asks them. Rests on their definitions.
-- Assumes nothing.
use Prim.Native.Nat.{ℕ, ◌-◌, ◌≤◌}
use native.Mathlib.Omega.{arith}
use mathlib.Core.Path.{◌≡◌, refl, sym, ap, ◌∙◌}
use mathlib.Core.Bool.{Bool, true, false, ◌||◌}
use mathlib.Core.List.{List}
use lib.Dec.{eqb, ltb}
use lib.ListN.{length, get_or, get_or-eq_default}
use borrow.Author.Tests.{eq-eqb, ne_eqb}
use Rattle.arith.specs.Lists.{all_below}
use Rattle.table_index_search.specs.Index.{entries, index_size, owner_at, slot_at, number_at, key_at}
use Rattle.table_index_search.specs.Agree.{blank_at, in_order, is_true, is_entry, entry_place, is_listed, agree_at, agree}
use Rattle.table_index_search.proofs.Entry.{key-used}

module _ (x : List ℕ) (j : ℕ) where
  pub order-unused : owner_at x j ≡ 0 → in_order x j ≡ true
  unfolding in_order
  order-unused e = rw (eq-eqb (owner_at x j) 0 e)

  or-true : (a : Bool) → (a || true) ≡ true
  or-true true = refl
  or-true false = refl

  pub order-first : j ≡ 0 → in_order x j ≡ true
  unfolding in_order
  order-first e = rw (eq-eqb j 0 e) (or-true (eqb (owner_at x j) 0))

  pub order-rest : {k : ℕ} {r : Bool} → (owner_at x j ≡ 0 → ⊥) → (j ≡ 0 → ⊥) → k ≡ number_at x j → r ≡ ltb (key_at x (j - 1)) k → r ≡ in_order x j
  unfolding in_order
  order-rest n m e p =
      p ∙ ap (ltb (key_at x (j - 1))) (e ∙ sym (key-used x j n)) ∙ rw (ne_eqb (owner_at x j) 0 n, ne_eqb j 0 m)

  pub entry_other : (key slot : ℕ) → eqb (key_at x j) key ≡ false → is_entry x key slot j ≡ false
  unfolding is_entry
  entry_other key slot e = rw e

  pub entry-slot : (key slot : ℕ) → eqb (key_at x j) key ≡ true → is_entry x key slot j ≡ eqb (slot_at x j) slot
  unfolding is_entry
  entry-slot key slot e = rw e

module _ (m x : List ℕ) (j : ℕ) where
  pub true-unused : owner_at x j ≡ 0 → is_true m x j ≡ blank_at x j
  unfolding is_true
  true-unused e = rw (eq-eqb (owner_at x j) 0 e)

  pub true-used : (owner_at x j ≡ 0 → ⊥) → is_true m x j ≡ eqb (key_at x j) (get_or m (slot_at x j) 0)
  unfolding is_true
  true-used n = rw (ne_eqb (owner_at x j) 0 n)

  -- a slot behind the table has no key
  pub true-out : (owner_at x j ≡ 0 → ⊥) → length m ≤ slot_at x j → is_true m x j ≡ false
  true-out n h =
      true-used n ∙ ne_eqb (key_at x j) (get_or m (slot_at x j) 0) (λ z. omega (arith, key-used x j n, get_or-eq_default m 0 {n = slot_at x j} h))

  pub listed_free : get_or m j 0 ≡ 0 → is_listed m x j ≡ true
  unfolding is_listed
  listed_free e = rw (eq-eqb (get_or m j 0) 0 e)

  pub listed-used : (get_or m j 0 ≡ 0 → ⊥) → is_listed m x j ≡ ltb (entry_place x (get_or m j 0) j) entries
  unfolding is_listed
  listed-used n = rw (ne_eqb (get_or m j 0) 0 n)

  pub agree-order : in_order x j ≡ false → agree_at m x j ≡ false
  unfolding agree_at
  agree-order e = rw e

  pub agree-true : in_order x j ≡ true → is_true m x j ≡ false → agree_at m x j ≡ false
  unfolding agree_at
  agree-true e f = rw (e, f)

  pub agree-rest : in_order x j ≡ true → is_true m x j ≡ true → agree_at m x j ≡ is_listed m x j
  unfolding agree_at
  agree-rest e f = rw (e, f)

module _ (m x : List ℕ) where
  pub agree-marks : (length m ≡ entries → ⊥) → agree m x ≡ false
  unfolding agree
  agree-marks n = rw (ne_eqb (length m) entries n)

  pub agree-size : length m ≡ entries → (length x ≡ index_size → ⊥) → agree m x ≡ false
  unfolding agree
  agree-size e n = rw (eq-eqb (length m) entries e, ne_eqb (length x) index_size n)

  pub agree-all : length m ≡ entries → length x ≡ index_size → agree m x ≡ all_below (agree_at m x) entries
  unfolding agree
  agree-all e f = rw (eq-eqb (length m) entries e, eq-eqb (length x) index_size f)
