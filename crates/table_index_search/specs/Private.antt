-- What private functions and proofs need.
-- Assumes nothing.
use Rattle.std.specs.Prelude.{ℕ, zero, suc, ◌*◌, ◌≤◌, ◌<◌, ◌≡◌, true, false, List, eqb, ltb}
use Rattle.table_index_search.specs.Index.{entries, slot_at, key_at}
use Rattle.table_index_search.specs.Search.{middle, missed_after, met_after}
use Rattle.table_index_search.specs.declared.Probe.{Probe}

-- the rule as the loop goes: among the entries lo to end - 1, with n looked at before
unfoldable pub binary_search : ℕ → List ℕ → ℕ → ℕ → ℕ → ℕ → Probe
binary_search zero x key lo end n = missed_after n
binary_search (suc rounds) x key lo end n =
    elim (ltb lo end) [
      | false ↦ missed_after n
      | true ↦ elim (eqb (key_at x (middle lo end)) key) [
        | true ↦ met_after (slot_at x (middle lo end)) (suc n)
        | false ↦ elim (ltb (key_at x (middle lo end)) key) [
          | true ↦ binary_search rounds x key (suc (middle lo end)) end (suc n)
          | false ↦ binary_search rounds x key lo (middle lo end) (suc n)
        ]
      ]
    ]

-- an owner that is not 0, a SIN and a group, of a byte each
pub record IsKey (k : ℕ) : Type 0 where
  pub low : 65536 ≤ k
  pub high : k < 256 * 65536

-- the marks of a well-formed table: used slots have keys, and no key stands twice
pub record Keys (mark : ℕ → ℕ) : Type 0 where
  pub within : (i : ℕ) → (mark i ≡ 0 → ⊥) → i < entries
  pub keys : (i : ℕ) → (mark i ≡ 0 → ⊥) → IsKey (mark i)
  pub once : (i k : ℕ) → (mark i ≡ 0 → ⊥) → mark i ≡ mark k → i ≡ k
