-- When index and table agree: request A9, "so formed, one entry true to each used slot, no more".
-- The table is its row of marks: 0 for a free slot, else the key of the slot's message.
-- Assumes nothing.
use Rattle.std.specs.Prelude.{ℕ, ◌-◌, Bool, cond, ◌&&◌, ◌||◌, List, length, get_or, eqb, ltb}
use Rattle.arith.specs.Lists.{all_below}
use Rattle.table_index_search.specs.Index.{entries, entry_size, index_size, byte_at, owner_at, slot_at, key_at}
use Rattle.arith.specs.Places.{first_of}

-- "unused entries zero"
unfoldable pub zero_at : List ℕ → ℕ → ℕ → Bool
zero_at x j b = eqb (byte_at x j b) 0

unfoldable pub blank_at : List ℕ → ℕ → Bool
blank_at x j = all_below (zero_at x j) entry_size

-- "sorted by the first three, rising", unused entries at the end: an entry is unused, the first, or above the one before it
unfoldable pub in_order : List ℕ → ℕ → Bool
in_order x j = eqb (owner_at x j) 0 || (eqb j 0 || ltb (key_at x (j - 1)) (key_at x j))

-- "no more": the slot of a used entry has its key
unfoldable pub is_true : List ℕ → List ℕ → ℕ → Bool
is_true marks x j = cond (eqb (owner_at x j) 0) (blank_at x j) (eqb (key_at x j) (get_or marks (slot_at x j) 0))

unfoldable pub is_entry : List ℕ → ℕ → ℕ → ℕ → Bool
is_entry x key slot j = eqb (key_at x j) key && eqb (slot_at x j) slot

-- the first entry with the key and the slot, 32 where there is none
unfoldable pub entry_place : List ℕ → ℕ → ℕ → ℕ
entry_place x key slot = first_of (is_entry x key slot) 0 entries

-- "one entry true to each used slot": a slot is free or some entry has its key and number, one only as the keys rise
unfoldable pub is_listed : List ℕ → List ℕ → ℕ → Bool
is_listed marks x i = eqb (get_or marks i 0) 0 || ltb (entry_place x (get_or marks i 0) i) entries

unfoldable pub agree_at : List ℕ → List ℕ → ℕ → Bool
agree_at marks x i = in_order x i && (is_true marks x i && is_listed marks x i)

unfoldable pub agree : List ℕ → List ℕ → Bool
agree marks x = eqb (length marks) entries && (eqb (length x) index_size && all_below (agree_at marks x) entries)
