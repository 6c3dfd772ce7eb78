-- `layout_reader::read_each` meets its contract.
-- Assumes nothing.
use lib.ListN.{length, replicate}
use Rattle.layout_reader.proofs.Fill.{Row}
use Rattle.layout_reader.proofs.read_each.Given as goal

abbrev pub invariant-loop-i : goal.invariant-loop-i
invariant-loop-i l = Row (replicate (length l.initial.values) l.e) l.p l.s l.initial.values l.initial.present l.values l.present l.at l.i
