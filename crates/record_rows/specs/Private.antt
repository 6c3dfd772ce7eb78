-- What private functions promise of a list stored in another.
-- Assumes nothing.
use Rattle.std.specs.Prelude.{ℕ, ◌+◌, ◌≤◌, ◌≡◌, List, length}
use Rattle.std.proofs.Math.Seq.{paste}

-- the list s into the list d from place k on, where it has room: r is the place behind it, and e the list then
pub record Appended {A : Type 0} (d : List A) (k : ℕ) (s : List A) (r : ℕ) (e : List A) : Type 0 where
  pub room : k + length s ≤ length d
  pub place : r ≡ k + length s
  pub stored : e ≡ paste d k s (length s)
