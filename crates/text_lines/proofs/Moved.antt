-- Bytes moved to the front of a window.
-- Assumes nothing.
use Prim.Native.Nat.{ℕ, ◌-◌, ◌≤◌, ◌<◌}
use mathlib.Core.List.{List}
use mathlib.Core.Path.{◌≡◌}
use lib.ListN.{length}
use borrow.Author.Tests.{lt-ltb, le-ltb}
use Rattle.text_lines.specs.Inner.{kept, slid}

module _ (w : List ℕ) (from end : ℕ) where
  pub keeps : end ≤ length w → kept (length w) from end ≡ end - from
  unfolding kept
  keeps h = rw (le-ltb (length w) end h)

  pub keeps-none : kept (length w) from end ≡ 0 → w ≡ slid w from end
  unfolding slid
  keeps-none e = rw e

  pub past-window : length w < end → kept (length w) from end ≡ 0
  unfolding kept
  past-window h = rw (lt-ltb (length w) end h)
