-- `record_grids::nodes_at` meets its contract: a loop that fills the nodes from the front.
-- Assumes nothing.
use mathlib.Core.Path.{refl}
use native.Mathlib.Omega.{arith}
use Rattle.arith.proofs.Lists.{fill-turn, fill_done}
use Rattle.record_grids.specs.Grids.{nodes_at}
use Rattle.record_grids.proofs.Appends.{zero_shifts}
use Rattle.record_grids.proofs.nodes_at.Invariants.{node}
use Rattle.record_grids.proofs.nodes_at.Goals as goal

pub loop-i-init : goal.loop-i-init
loop-i-init c = (omega arith, refl)

pub loop-i-preserved : goal.loop-i-preserved
loop-i-preserved c = let l = c.loop-i in
    let a = c.args in
    (omega arith, fill-turn (node a.values.now a.present.now a.k) _ _ l.i _ zero_shifts l.invariant.1 c.shifts_at.ensures (omega arith))

pub returns : goal.returns
unfolding nodes_at
returns c = let l = c.loop-i in
    let a = c.args in
    fill_done (node a.values.now a.present.now a.k) _ _ l.i 16 l.invariant.1 (omega arith) (omega arith)
