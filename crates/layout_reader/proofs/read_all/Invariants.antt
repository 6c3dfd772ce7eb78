-- `layout_reader::read_all` meets its contract.
-- Assumes nothing.
use Rattle.layout_reader.proofs.Fill.{Row}
use Rattle.layout_reader.proofs.read_all.Given as goal

abbrev pub invariant-loop-i : goal.invariant-loop-i
invariant-loop-i l = Row l.layout l.p l.s l.initial.values l.initial.present l.values l.present l.at l.i
