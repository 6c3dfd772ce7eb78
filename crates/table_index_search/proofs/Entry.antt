-- The key of an entry, used or not. Rests on its definition.
-- Assumes nothing.
use Prim.Native.Nat.{ℕ, ◌≤◌, ◌<◌}
use native.Mathlib.Omega.{arith}
use mathlib.Core.Path.{◌≡◌}
use mathlib.Core.Bool.{false}
use mathlib.Core.List.{List}
use lib.Dec.{eqb, ltb}
use borrow.Author.Tests.{eq-eqb, ne_eqb, le-ltb}
use Rattle.table_index_search.specs.Index.{owner_at, number_at, above, key_at}

module _ (x : List ℕ) (j : ℕ) where
  pub key-unused : owner_at x j ≡ 0 → key_at x j ≡ above
  unfolding key_at
  key-unused e = rw (eq-eqb (owner_at x j) 0 e)

  pub key-used : (owner_at x j ≡ 0 → ⊥) → key_at x j ≡ number_at x j
  unfolding key_at
  key-used n = rw (ne_eqb (owner_at x j) 0 n)

  -- an unused entry has no key and is not below one
  pub unused-not : (key : ℕ) → key < above → owner_at x j ≡ 0 → eqb (key_at x j) key ≡ false
  unused-not key h e = ne_eqb (key_at x j) key (λ z. omega (arith, key-unused e))

  pub unused-above : (key : ℕ) → key < above → owner_at x j ≡ 0 → ltb (key_at x j) key ≡ false
  unused-above key h e = le-ltb (key_at x j) key (omega (arith, key-unused e))

  pub used_low : (owner_at x j ≡ 0 → ⊥) → 65536 ≤ key_at x j
  used_low n = omega (arith, key-used n)

  pub used-if : key_at x j < above → owner_at x j ≡ 0 → ⊥
  used-if h e = omega (arith, key-unused e)
