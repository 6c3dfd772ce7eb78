-- Agreement as the test has it and as it is meant: one from the other. Rests on the tests, case by case, and on what `first_of` is.
-- Assumes nothing.
use Prim.Native.Nat.{ℕ, zero, suc, ◌-◌, ◌<◌}
use native.Mathlib.Omega.{arith}
use native.Mathlib.Decide.{dec_lt, ℕ_discrete}
use mathlib.Core.Path.{◌≡◌, refl, sym, ap, ◌∙◌}
use mathlib.Core.Bool.{Bool, true, ◌&&◌}
use mathlib.Core.List.{List}
use lib.Dec.{eqb, ltb}
use lib.ListN.{length, get_or}
use borrow.Author.Tests.{eq-eqb, lt-ltb, eqb-true, ltb-true}
use Rattle.arith.specs.Lists.{all_below}
use Rattle.arith.proofs.Lists.{all_true}
use Rattle.arith.proofs.Tests.{both_first, both-second, all-at, false-ne-true}
use Rattle.table_index_search.specs.Index.{entries, entry_size, index_size, byte_at, owner_at, slot_at, above, number_at, key_at}
use Rattle.table_index_search.specs.Agree.{zero_at, blank_at, in_order, is_true, is_entry, entry_place, is_listed, agree_at, agree}
use Rattle.table_index_search.specs.Means.{mark_in, Entry, Agrees}
use Rattle.table_index_search.specs.Private.{Keys}
use Rattle.arith.proofs.Places.{first}
use Rattle.table_index_search.proofs.Entry.{key-used, used_low, used-if}
use Rattle.table_index_search.proofs.Tests.{order-unused, order-first, order-rest, true-unused, true-used, listed_free, listed-used, agree-rest, agree-all}

-- ---- one entry found

pub entry_of : (x : List ℕ) (key slot j : ℕ) → is_entry x key slot j ≡ true → (key_at x j ≡ key) × (slot_at x j ≡ slot)
unfolding is_entry
entry_of x key slot j e = (
  eqb-true (key_at x j) key (both_first (eqb (key_at x j) key) (eqb (slot_at x j) slot) e),
  eqb-true (slot_at x j) slot (both-second (eqb (key_at x j) key) (eqb (slot_at x j) slot) e),
)

pub is-entry : (x : List ℕ) (key slot j : ℕ) → key_at x j ≡ key → slot_at x j ≡ slot → is_entry x key slot j ≡ true
unfolding is_entry
is-entry x key slot j e f = rw (eq-eqb (key_at x j) key e, eq-eqb (slot_at x j) slot f)

pub place_of : (x : List ℕ) (key slot : ℕ) → entry_place x key slot < entries → Entry x key slot
unfolding entry_place
place_of x key slot h =
    let p = entry_place x key slot in
    let e = entry_of x key slot p ((first (is_entry x key slot) entries).holds h) in
    record { place = p; low = h; key-is = e.0; slot_is = e.1 }

pub place-low : (x : List ℕ) (key slot : ℕ) → Entry x key slot → entry_place x key slot < entries
unfolding entry_place
place-low x key slot e = by (dec_lt (entry_place x key slot) entries)
  where
    by : Dec (entry_place x key slot < entries) → entry_place x key slot < entries
    by (yes h) = h
    by (no h) =
        let f = (first (is_entry x key slot) entries).before e.place (omega (arith, e.low)) in
        absurd (false-ne-true (sym f ∙ is-entry x key slot e.place e.key-is e.slot_is))

-- ---- from the test

module _ (m x : List ℕ) (test : agree m x ≡ true) where
  abbrev rest : Bool
  rest = eqb (length x) index_size && all_below (agree_at m x) entries

  pub marks-sized : length m ≡ entries
  unfolding agree
  marks-sized = eqb-true (length m) entries (both_first (eqb (length m) entries) rest test)

  pub index-sized : length x ≡ index_size
  unfolding agree
  index-sized =
      eqb-true (length x) index_size (both_first (eqb (length x) index_size) (all_below (agree_at m x) entries) (both-second (eqb (length m) entries) rest test))

  here : (i : ℕ) → i < entries → agree_at m x i ≡ true
  here i h = all-at (agree_at m x) entries (sym (agree-all m x marks-sized index-sized) ∙ test) i h

  order-here : (i : ℕ) → i < entries → in_order x i ≡ true
  unfolding agree_at
  order-here i h = both_first (in_order x i) (is_true m x i && is_listed m x i) (here i h)

  true-here : (i : ℕ) → i < entries → is_true m x i ≡ true
  unfolding agree_at
  true-here i h = both_first (is_true m x i) (is_listed m x i) (both-second (in_order x i) (is_true m x i && is_listed m x i) (here i h))

  listed_here : (i : ℕ) → i < entries → is_listed m x i ≡ true
  unfolding agree_at
  listed_here i h = both-second (is_true m x i) (is_listed m x i) (both-second (in_order x i) (is_true m x i && is_listed m x i) (here i h))

  zeros : (j b : ℕ) → j < entries → b < entry_size → owner_at x j ≡ 0 → byte_at x j b ≡ 0
  unfolding blank_at zero_at
  zeros j b h l e = eqb-true (byte_at x j b) 0 (all-at (zero_at x j) entry_size (sym (true-unused m x j e) ∙ true-here j h) b l)

  true-to : (j : ℕ) → j < entries → (owner_at x j ≡ 0 → ⊥) → get_or m (slot_at x j) 0 ≡ key_at x j
  true-to j h n = sym (eqb-true (key_at x j) (get_or m (slot_at x j) 0) (sym (true-used m x j n) ∙ true-here j h))

  step : (j : ℕ) → suc j < entries → (owner_at x (suc j) ≡ 0 → ⊥) → key_at x j < key_at x (suc j)
  step j h n =
      let e : suc j - 1 ≡ j = omega arith in
      let o = order-rest x (suc j) n (λ z. omega arith) refl refl in
      omega (arith, ltb-true (key_at x j) (number_at x (suc j)) (ap (λ k. ltb (key_at x k) (number_at x (suc j))) (sym e) ∙ o ∙ order-here (suc j) h), key-used x (suc j) n)

  pub means : Keys (mark_in m) → Agrees (mark_in m) x
  means keys =
      record {
        size = index-sized;
        rising = rising;
        zeros = zeros;
        true-to = true-to;
        listed = λ i n. place_of x (get_or m i 0) i (ltb-true (entry_place x (get_or m i 0) i) entries (sym (listed-used m x i n) ∙ listed_here i (keys.within i n)));
      }
    where
      small : (j : ℕ) → j < entries → (owner_at x j ≡ 0 → ⊥) → key_at x j < above
      small j h n =
          let e = true-to j h n in
          omega (arith, e, (keys.keys (slot_at x j) (λ z. omega (arith, e, used_low x j n))).high)

      rising : (j k : ℕ) → j < k → k < entries → (owner_at x k ≡ 0 → ⊥) → key_at x j < key_at x k
      rising j zero l h n = absurd (omega arith)
      rising j (suc k) l h n = go (ℕ_discrete j k) (step k h n) (rising j k)
        where
          go : Dec (j ≡ k) → key_at x k < key_at x (suc k) → (j < k → k < entries → (owner_at x k ≡ 0 → ⊥) → key_at x j < key_at x k) → key_at x j < key_at x (suc k)
          go (yes e) s before = rw e s
          go (no d) s before = omega (arith, before (omega arith) (omega arith) (used-if x k (omega (arith, small (suc k) h n))))

-- ---- to the test

module _ (m x : List ℕ) (sized : length m ≡ entries) (a : Agrees (mark_in m) x) where
  blank : (j : ℕ) → j < entries → owner_at x j ≡ 0 → blank_at x j ≡ true
  unfolding blank_at zero_at
  blank j h e = all_true (zero_at x j) entry_size (λ b l. eq-eqb (byte_at x j b) 0 (a.zeros j b h l e))

  ordered : (j : ℕ) → j < entries → Dec (owner_at x j ≡ 0) → in_order x j ≡ true
  ordered j h (yes e) = order-unused x j e
  ordered zero h (no n) = order-first x zero refl
  ordered (suc j) h (no n) =
      let e : suc j - 1 ≡ j = omega arith in
      sym (order-rest x (suc j) n (λ z. omega arith) refl refl)
      ∙ ap (λ k. ltb (key_at x k) (number_at x (suc j))) e
      ∙ lt-ltb (key_at x j) (number_at x (suc j)) (omega (arith, a.rising j (suc j) (omega arith) h n, key-used x (suc j) n))

  held : (j : ℕ) → j < entries → Dec (owner_at x j ≡ 0) → is_true m x j ≡ true
  held j h (yes e) = true-unused m x j e ∙ blank j h e
  held j h (no n) = true-used m x j n ∙ eq-eqb (key_at x j) (get_or m (slot_at x j) 0) (sym (a.true-to j h n))

  lists : (i : ℕ) → Dec (get_or m i 0 ≡ 0) → is_listed m x i ≡ true
  lists i (yes e) = listed_free m x i e
  lists i (no n) = listed-used m x i n ∙ lt-ltb (entry_place x (get_or m i 0) i) entries (place-low x (get_or m i 0) i (a.listed i n))

  pub tests : agree m x ≡ true
  tests =
      agree-all m x sized a.size
      ∙ all_true (agree_at m x) entries
      (λ i h. agree-rest m x i (ordered i h (ℕ_discrete (owner_at x i) 0)) (held i h (ℕ_discrete (owner_at x i) 0)) ∙ lists i (ℕ_discrete (get_or m i 0) 0))
