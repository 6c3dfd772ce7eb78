-- `layout::total_bits` meets its contract.
-- Assumes nothing.
use native.Mathlib.Omega.{arith}
use Rattle.layout.proofs.Loop.{at-starts, at-goes-on, at-fits, at-ends, total-most}
use Rattle.layout.proofs.total_bits.Goals as goal

pub overflow_add-n : goal.overflow_add-n
overflow_add-n c = let es = c.args.layout.now in
    let l = c.loop-e in
    omega (arith, total-most es, at-fits es 0 l.n l.e-index l.invariant (omega arith))

pub loop-e-preserved : goal.loop-e-preserved
loop-e-preserved c = let l = c.loop-e in at-goes-on c.args.layout.now 0 l.n l.e-index l.invariant (omega arith)

pub returns : goal.returns
returns c = let l = c.loop-e in omega (arith, at-ends c.args.layout.now 0 l.n l.e-index l.invariant (omega arith))

pub loop-e-init : goal.loop-e-init
loop-e-init c = at-starts c.args.layout.now 0
