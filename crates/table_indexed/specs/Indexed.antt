-- The table of messages with its index: request A9.
-- Assumes nothing.
use Rattle.std.specs.Prelude.{ℕ, ◌+◌, ◌*◌, not, cond, List, [], ◌∷◌, length, get_or, eqb}
use Rattle.arith.specs.Lists.{up_to}
use Rattle.arith.specs.First.{first}
use Rattle.message_rows.specs.Message.{number_of, sin_of}
use Rattle.table_slots.specs.Slots.{slots, group_of, slot, held}
use Rattle.table.specs.Table.{well_formed, store_place, store_refusal, store_table, find_refusal, remove_table}
use Rattle.table_index_search.specs.Index.{index_size}
use Rattle.table_index_search.specs.Agree.{agree}
use Rattle.table_index.specs.Change.{inserted, deleted, rebuilt}

-- ---- keys: "owner, SIN, group" as one number, so that the order of the numbers is that of the three

abbrev pub entry_key : ℕ → ℕ → ℕ → ℕ
entry_key owner sin group = owner * 65536 + sin * 256 + group

-- the key of an owner's message
unfoldable pub message_key : ℕ → List ℕ → ℕ
message_key owner m = entry_key owner (sin_of m) (group_of (number_of m))

-- a slot's key, 0 where it is free
unfoldable pub slot_key : List ℕ → ℕ
slot_key s = cond (eqb (get_or s 0 0) 0) 0 (message_key (get_or s 0 0) (held s))

unfoldable pub slot_key_at : List ℕ → ℕ → ℕ
slot_key_at t i = slot_key (slot t i)

unfoldable pub slot_keys : List ℕ → List ℕ
slot_keys t = up_to (slot_key_at t) slots

-- ---- "Whether they agree .. is a call of its own, giving 0, TABLE or INDEX"

unfoldable pub agrees_refusal : List ℕ → List ℕ → ℕ
agrees_refusal t x = first ((18, not (well_formed t)) ∷ (22, not (agree (slot_keys t) x)) ∷ [])

-- ---- "Another call writes the index anew for any table: 0, TABLE, or INDEX for a wrong size"

unfoldable pub write_refusal : List ℕ → List ℕ → ℕ
write_refusal t x = first ((18, not (well_formed t)) ∷ (22, not (eqb (length x) index_size)) ∷ [])

unfoldable pub write_index : List ℕ → List ℕ → List ℕ
write_index t x = cond (eqb (write_refusal t x) 0) (rebuilt (slot_keys t) x) x

-- ---- store and remove: 18 TABLE, 22 INDEX, then as without an index

-- a number behind those of agreement
unfoldable pub behind : List ℕ → List ℕ → ℕ → ℕ
behind t x n = cond (eqb (agrees_refusal t x) 0) n (agrees_refusal t x)

unfoldable pub store_number : List ℕ → List ℕ → ℕ → List ℕ → ℕ
store_number t x o m = behind t x (store_refusal t o m)

unfoldable pub stored_table : List ℕ → List ℕ → ℕ → List ℕ → List ℕ
stored_table t x o m = cond (eqb (agrees_refusal t x) 0) (store_table t o m) t

-- the message's key gets its entry
unfoldable pub stored_index : List ℕ → List ℕ → ℕ → List ℕ → List ℕ
stored_index t x o m = cond (eqb (store_number t x o m) 0) (inserted x (message_key o m) (store_place t o m)) x

unfoldable pub remove_number : List ℕ → List ℕ → ℕ → ℕ → ℕ → ℕ
remove_number t x o sin group = behind t x (find_refusal t o sin group)

unfoldable pub removed_table : List ℕ → List ℕ → ℕ → ℕ → ℕ → List ℕ
removed_table t x o sin group = cond (eqb (agrees_refusal t x) 0) (remove_table t o sin group) t

-- the key loses its entry
unfoldable pub removed_index : List ℕ → List ℕ → ℕ → ℕ → ℕ → List ℕ
removed_index t x o sin group = cond (eqb (remove_number t x o sin group) 0) (deleted x (entry_key o sin group)) x
