-- What find gives from the entries of the binary search and one slot: request A9.
-- Assumes nothing.
use Rattle.std.specs.Prelude.{ℕ, suc, ◌+◌, ◌*◌, Bool, not, cond, ◌&&◌, List, [], ◌∷◌, length, get_or, take, drop, ltb, eqb}
use Rattle.arith.specs.First.{first}
use Rattle.table_slots.specs.Slots.{slots, slot_size, table_size, is_owner, key, joined, slot, used, tag}
use Rattle.table_index_search.specs.Index.{index_size}
use Rattle.table_index_search.specs.Search.{is_found, slot_found, searched}
use Rattle.table_index_search.specs.declared.Probe.{Probe}
use Rattle.table_indexed.specs.Indexed.{entry_key}
use Rattle.table_indexed.specs.declared.Found.{Found}

-- what the binary search gives for an owner's key
unfoldable pub probed : List ℕ → ℕ → ℕ → ℕ → Probe
probed x o sin group = searched x (entry_key o sin group)

-- "a used slot of that key"
unfoldable pub used_by : List ℕ → ℕ → ℕ → ℕ → Bool
used_by s o sin group = used s && eqb (tag s) (suc (joined o (key sin group)))

-- 18 TABLE, 22 INDEX "for a wrong size only", 21 OWNER, 17 NONE "for a group above 2 or if the rule meets no such entry",
-- 22 INDEX "if the entry's slot is above 31 or is no used slot of that key"
unfoldable pub find_number : List ℕ → List ℕ → ℕ → ℕ → ℕ → ℕ
find_number t x o sin group =
    first
    ((18, not (eqb (length t) table_size)) ∷ (22, not (eqb (length x) index_size)) ∷ (21, not (is_owner o)) ∷ (17, not (ltb group 3))
    ∷ (17, not (is_found (probed x o sin group))) ∷ (22, not (ltb (slot_found (probed x o sin group)) slots))
    ∷ (22, not (used_by (slot t (slot_found (probed x o sin group))) o sin group)) ∷ [])

-- a number where find answers 0, else 0
unfoldable pub given : List ℕ → List ℕ → ℕ → ℕ → ℕ → ℕ → ℕ
given t x o sin group n = cond (eqb (find_number t x o sin group) 0) n 0

-- the message's part of the table: its first byte and its length
unfoldable pub part_at : List ℕ → List ℕ → ℕ → ℕ → ℕ → ℕ
part_at t x o sin group = given t x o sin group (slot_found (probed x o sin group) * slot_size + 2)

unfoldable pub part_length : List ℕ → List ℕ → ℕ → ℕ → ℕ → ℕ
part_length t x o sin group = given t x o sin group (get_or (slot t (slot_found (probed x o sin group))) 1 0)

-- what find answers; "Answering 0, it also gives their number"
unfoldable pub found_by : List ℕ → List ℕ → ℕ → ℕ → ℕ → Found
found_by t x o sin group =
    record {
      refusal = find_number t x o sin group;
      at = part_at t x o sin group;
      length = part_length t x o sin group;
      probes = given t x o sin group (probed x o sin group).probes;
    }

-- the bytes of the part, none with a refusal
unfoldable pub part : List ℕ → List ℕ → ℕ → ℕ → ℕ → List ℕ
part t x o sin group = take (part_length t x o sin group) (drop (part_at t x o sin group) t)
