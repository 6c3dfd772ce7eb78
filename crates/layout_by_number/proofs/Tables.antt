-- The layout of a number that has a table of its own.
-- Assumes nothing.
use Prim.Native.Nat.{ℕ}
use mathlib.Core.Path.{◌≡◌}
use Rattle.layout_tables.specs.Layouts.{layout_of, layout1025, layout1026, layout1027}
use Rattle.layout_tables.specs.Inner.{layout_by}

pub table-1025 : (k n m : ℕ) → k ≡ 1025 → layout_by k n m ≡ layout1025
unfolding layout_by layout_of
table-1025 k n m e = rw e

pub table-1026 : (k n m : ℕ) → k ≡ 1026 → layout_by k n m ≡ layout1026
unfolding layout_by layout_of
table-1026 k n m e = rw e

pub table-1027 : (k n m : ℕ) → k ≡ 1027 → layout_by k n m ≡ layout1027
unfolding layout_by layout_of
table-1027 k n m e = rw e
