-- What only promises between crates name.
-- Assumes nothing.
use Rattle.std.specs.Prelude.{ℕ, ◌+◌, ◌≡◌, true, cond, List, take, drop, Option, Some, None}
use Rattle.table_slots.specs.Inner.{marks}
use Rattle.table.specs.Table.{well_formed, found_at, found_length}
use Rattle.std.specs.Borrow.{Bor}

-- the bytes of the part, none with a refusal
unfoldable pub found : List ℕ → ℕ → ℕ → ℕ → List ℕ
found t o sin group = take (found_length t o sin group) (drop (found_at t o sin group) t)

-- the marks of a table that is well formed
unfoldable pub checked_marks : List ℕ → Option (List ℕ)
checked_marks t = cond (well_formed t) (Some (marks t)) None

-- a table that is well formed, and its row of marks
pub record Marked (row t : List ℕ) : Type 0 where
  pub row_is : row ≡ marks t
  pub whole : well_formed t ≡ true

-- r is the part of t with the message of the owner's key: its bytes, and where it points (a block and an offset in it)
pub record Shows (t : Bor (List ℕ)) (owner sin group : ℕ) (r : Bor (List ℕ)) : Type 0 where
  pub bytes : r.now ≡ found t.now owner sin group
  pub block : r.ref_ptr.0 ≡ t.ref_ptr.0
  pub offset : r.ref_ptr.1 ≡ found_at t.now owner sin group + t.ref_ptr.1
