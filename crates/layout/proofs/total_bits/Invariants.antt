-- `layout::total_bits` meets its contract.
-- Assumes nothing.
use Rattle.layout.proofs.Loop.{At}
use Rattle.layout.proofs.total_bits.Given as goal

abbrev pub invariant-loop-e : goal.invariant-loop-e
invariant-loop-e l = At l.layout 0 l.n l.e-index
