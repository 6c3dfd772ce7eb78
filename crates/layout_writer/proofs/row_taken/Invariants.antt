-- `layout_writer::row_taken` meets its contract.
-- Assumes nothing.
use mathlib.Core.Path.{◌≡◌}
use Prim.Native.Nat.{◌≤◌}
use lib.ListN.{length, drop}
use Rattle.layout.specs.Layout.{row_takes}
use Rattle.layout_writer.proofs.row_taken.Given as goal

abbrev pub invariant-loop-i : goal.invariant-loop-i
invariant-loop-i l =
    (l.i ≤ length l.layout) × ((length l.layout ≡ length l.values) × ((length l.layout ≡ length l.present) × (row_takes (drop l.i l.layout) (drop l.i l.values) (drop l.i l.present) ≡ row_takes l.layout l.values l.present)))
