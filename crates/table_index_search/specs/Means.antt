-- What agreement of an index with a row of marks means, and which rows a well-formed table has.
-- Assumes nothing.
use Rattle.std.specs.Prelude.{ℕ, ◌<◌, ◌≡◌, List, length, get_or}
use Rattle.table_index_search.specs.Index.{entries, entry_size, index_size, byte_at, owner_at, slot_at, key_at}

-- the mark of a slot, 0 where it is free
abbrev pub mark_in : List ℕ → ℕ → ℕ
mark_in marks i = get_or marks i 0

-- the entry of a key and a slot
pub record Entry (x : List ℕ) (key slot : ℕ) : Type 0 where
  pub place : ℕ
  pub low : place < entries
  pub key-is : key_at x place ≡ key
  pub slot_is : slot_at x place ≡ slot

-- index and table agree: sorted and rising with unused entries at the end; these zero; each used entry's slot has its key; each used slot has its entry
pub record Agrees (mark : ℕ → ℕ) (x : List ℕ) : Type 0 where
  pub size : length x ≡ index_size
  pub rising : (j k : ℕ) → j < k → k < entries → (owner_at x k ≡ 0 → ⊥) → key_at x j < key_at x k
  pub zeros : (j b : ℕ) → j < entries → b < entry_size → owner_at x j ≡ 0 → byte_at x j b ≡ 0
  pub true-to : (j : ℕ) → j < entries → (owner_at x j ≡ 0 → ⊥) → mark (slot_at x j) ≡ key_at x j
  pub listed : (i : ℕ) → (mark i ≡ 0 → ⊥) → Entry x (mark i) i
