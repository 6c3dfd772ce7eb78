-- The line at a place, by where it ends.
-- Assumes nothing.
use Prim.Native.Nat.{ℕ, ◌+◌, ◌≤◌, ◌<◌}
use mathlib.Core.Path.{◌≡◌}
use Rattle.std.specs.Prelude.{Some, None}
use mathlib.Core.List.{List}
use lib.ListN.{length}
use borrow.Author.Tests.{lt-ltb, le-ltb}
use Rattle.text_lines.specs.Inner.{line_of}

module _ (s : List ℕ) (from n : ℕ) where
  pub line-ended : from + n < length s → line_of s from n ≡ record { from = from; length = n; next = Some (from + n + 1) }
  unfolding line_of
  line-ended h = rw (lt-ltb (from + n) (length s) h)

  pub line-open : length s ≤ from + n → line_of s from n ≡ record { from = from; length = n; next = None }
  unfolding line_of
  line-open h = rw (le-ltb (from + n) (length s) h)
