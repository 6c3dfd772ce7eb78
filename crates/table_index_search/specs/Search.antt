-- The halving rule: request A9, "Find reads only the entries that this halving rule names".
-- Assumes nothing.
use Rattle.std.specs.Prelude.{ℕ, zero, suc, ◌+◌, ◌-◌, ◌*◌, ◌/◌, Bool, true, false, cond, Some, None, is_some, unwrap_or, List, [], ◌∷◌, length, take, drop, eqb, ltb}
use Rattle.table_index_search.specs.Index.{entries, entry_size, index_size, slot_at, key_at}
use Rattle.table_index_search.specs.declared.Probe.{Probe}

-- "the one at half the sum of both ends, rounded down", of the entries lo to end - 1
abbrev pub middle : ℕ → ℕ → ℕ
middle lo end = (lo + (end - 1)) / 2

-- the places that the rule names among the entries lo to end - 1, in the order in which they are looked at: "then so among those before or behind it, until the key or nothing is left"; each round leaves fewer, so that as many rounds as entries are enough
unfoldable pub named_among : ℕ → List ℕ → ℕ → ℕ → ℕ → List ℕ
named_among zero x key lo end = []
named_among (suc rounds) x key lo end =
    elim (ltb lo end) [
      | false ↦ []
      | true ↦ middle lo end ∷ elim (eqb (key_at x (middle lo end)) key) [
        | true ↦ []
        | false ↦ elim (ltb (key_at x (middle lo end)) key) [
          | true ↦ named_among rounds x key (suc (middle lo end)) end
          | false ↦ named_among rounds x key lo (middle lo end)
        ]
      ]
    ]

-- "of entries 0 to 31"; none in an index of another size
unfoldable pub named : List ℕ → ℕ → List ℕ
named x key = cond (eqb (length x) index_size) (named_among entries x key 0 entries) []

abbrev pub missed_after : ℕ → Probe
missed_after n = record { slot = None; probes = n }

abbrev pub met_after : ℕ → ℕ → Probe
met_after slot n = record { slot = Some slot; probes = n }

-- whether a search found the key, and the slot that it gives, 0 where it found none
abbrev pub is_found : Probe → Bool
is_found p = is_some p.slot

abbrev pub slot_found : Probe → ℕ
slot_found p = unwrap_or p.slot 0

-- the last of n places named decides: its slot, where it has the key
unfoldable pub last_named : List ℕ → ℕ → List ℕ → ℕ → Probe
last_named x key [] n = missed_after n
last_named x key (j ∷ []) n = cond (eqb (key_at x j) key) (met_after (slot_at x j) n) (missed_after n)
last_named x key (j ∷ k ∷ js) n = last_named x key (k ∷ js) n

unfoldable pub searched : List ℕ → ℕ → Probe
searched x key = last_named x key (named x key) (length (named x key))

-- the four bytes of entry j, and of each entry of a list
abbrev pub entry_at : List ℕ → ℕ → List ℕ
entry_at x j = take entry_size (drop (j * entry_size) x)

unfoldable pub entries_at : List ℕ → List ℕ → List (List ℕ)
entries_at x [] = []
entries_at x (j ∷ js) = entry_at x j ∷ entries_at x js
