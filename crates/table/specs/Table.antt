-- The table of messages that two owners share: document 01, "The table", with request A7.
-- Assumes nothing.
use Rattle.std.specs.Prelude.{ℕ, zero, suc, ◌+◌, ◌*◌, List, [], ◌∷◌, ◌++◌, Bool, not, cond, ◌&&◌, ◌||◌, length, get_or, take, drop, ltb, leb, eqb}
use Rattle.arith.specs.Places.{first_of}
use Rattle.arith.specs.First.{first}
use Rattle.message_rows.specs.Message.{tests}
use Rattle.table_slots.specs.Slots.{slots, slot_size, table_size, most, is_owner, key, key_of, joined, slot, owner_at, well_slot, tag, slot_of}
use Rattle.table.specs.declared.WalkFound.{WalkFound}

-- ---- where a key stands, and the well-formed table

unfoldable pub has_tag : List ℕ → ℕ → ℕ → Bool
has_tag t g i = eqb (tag (slot t i)) g

-- the first of the slots 0 to n - 1 with the tag g, n where there is none
unfoldable pub place : List ℕ → ℕ → ℕ → ℕ
place t g n = first_of (has_tag t g) 0 n

-- "No key stands twice": slot i is free, or has an owner and key that no slot before it has
unfoldable pub new_key : List ℕ → ℕ → Bool
new_key t i = eqb (tag (slot t i)) 0 || eqb (place t (tag (slot t i)) i) i

unfoldable pub flawed : List ℕ → ℕ → Bool
flawed t i = not (well_slot (slot t i)) || not (new_key t i)

-- the table has its size, every slot is well formed, and no key stands twice
unfoldable pub well_slots : List ℕ → Bool
well_slots t = eqb (length t) table_size && eqb (first_of (flawed t) 0 slots) slots

-- how many of the places 0 to n - 1 pass a test
unfoldable pub count_of : (ℕ → Bool) → ℕ → ℕ
count_of p zero = 0
count_of p (suc n) = cond (p n) (suc (count_of p n)) (count_of p n)

-- how many slots an owner holds
unfoldable pub owns : List ℕ → ℕ → ℕ → Bool
owns t o i = eqb (owner_at t i) o

unfoldable pub holding : List ℕ → ℕ → ℕ
holding t o = count_of (owns t o) slots

-- how many slots are used
unfoldable pub is_used : List ℕ → ℕ → Bool
is_used t i = not (owns t 0 i)

unfoldable pub used_slots : List ℕ → ℕ
used_slots t = count_of (is_used t) slots

-- TABLE: "wrong size or not well formed", or "an owner with more than 20 slots"
unfoldable pub well_formed : List ℕ → Bool
well_formed t = well_slots t && (leb (holding t 1) most && leb (holding t 2) most)

-- the table with slot i replaced
unfoldable pub put : List ℕ → ℕ → ℕ → List ℕ → List ℕ
put t i o m = take (i * slot_size) t ++ (slot_of o m ++ drop (i * slot_size + slot_size) t)

-- ---- store: 18 TABLE, 21 OWNER, 1 to 5, 16 FULL

-- "Store replaces under the same key, otherwise takes the first free slot": that slot, or 32 where "the key is new to the
-- caller and the caller holds 20 or no slot is free"
unfoldable pub store_place : List ℕ → ℕ → List ℕ → ℕ
store_place t o m =
    cond (ltb (place t (suc (joined o (key_of m))) slots) slots) (place t (suc (joined o (key_of m))) slots) (cond (ltb (holding t o) most) (place t 0 slots) slots)

unfoldable pub store_refusal : List ℕ → ℕ → List ℕ → ℕ
store_refusal t o m =
    first ((18, not (well_formed t)) ∷ (21, not (is_owner o)) ∷ tests m ++ ((16, not (ltb (store_place t o m) slots)) ∷ []))

unfoldable pub store_table : List ℕ → ℕ → List ℕ → List ℕ
store_table t o m = cond (eqb (store_refusal t o m) 0) (put t (store_place t o m) o m) t

-- ---- find and remove: 18 TABLE, 21 OWNER, 17 NONE

-- the slot of an owner's key, or 32 where there is none; a group has the number 0 to 2
unfoldable pub key_place : List ℕ → ℕ → ℕ → ℕ → ℕ
key_place t o sin group = cond (ltb group 3) (place t (suc (joined o (key sin group))) slots) slots

unfoldable pub find_refusal : List ℕ → ℕ → ℕ → ℕ → ℕ
find_refusal t o sin group =
    first ((18, not (well_formed t)) ∷ (21, not (is_owner o)) ∷ (17, not (ltb (key_place t o sin group) slots)) ∷ [])

-- the message's part of the table: its first byte and its length; zeros with a refusal
unfoldable pub found_at : List ℕ → ℕ → ℕ → ℕ → ℕ
found_at t o sin group = cond (eqb (find_refusal t o sin group) 0) (key_place t o sin group * slot_size + 2) 0

unfoldable pub found_length : List ℕ → ℕ → ℕ → ℕ → ℕ
found_length t o sin group = cond (eqb (find_refusal t o sin group) 0) (get_or (slot t (key_place t o sin group)) 1 0) 0

-- what find answers
unfoldable pub found_of : List ℕ → ℕ → ℕ → ℕ → WalkFound
found_of t o sin group =
    record { refusal = find_refusal t o sin group; at = found_at t o sin group; length = found_length t o sin group }

-- "Remove zeroes the slot"
unfoldable pub remove_table : List ℕ → ℕ → ℕ → ℕ → List ℕ
remove_table t o sin group = cond (eqb (find_refusal t o sin group) 0) (put t (key_place t o sin group) 0 []) t
