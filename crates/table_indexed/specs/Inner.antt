-- What only promises between crates name.
-- Assumes nothing.
use Rattle.std.specs.Prelude.{ℕ, ◌+◌, List, ◌≡◌}
use Rattle.std.specs.Borrow.{Bor}
use Rattle.table_indexed.specs.Find.{part, part_at}

-- r is the part of t with the message of the owner's key: its bytes, and where it points (a block and an offset in it)
pub record Shows (t : Bor (List ℕ)) (x : List ℕ) (owner sin group : ℕ) (r : Bor (List ℕ)) : Type 0 where
  pub bytes : r.now ≡ part t.now x owner sin group
  pub block : r.ref_ptr.0 ≡ t.ref_ptr.0
  pub offset : r.ref_ptr.1 ≡ part_at t.now x owner sin group + t.ref_ptr.1
