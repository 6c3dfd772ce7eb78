-- `layout_writer::write_all` meets its contract.
-- Assumes nothing.
use mathlib.Core.Path.{◌≡◌}
use lib.ListN.{length}
use Rattle.layout_writer.proofs.Loop.{Writing}
use Rattle.layout_writer.proofs.write_all.Given as goal

abbrev pub invariant-loop-i : goal.invariant-loop-i
invariant-loop-i l = Writing l.initial.s l.layout l.values l.present l.s l.at l.i × ((length l.layout ≡ length l.values) × (length l.layout ≡ length l.present))
