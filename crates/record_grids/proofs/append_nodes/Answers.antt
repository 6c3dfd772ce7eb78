-- `record_grids::append_nodes` meets its contract: one node behind another in both buffers.
-- Assumes nothing.
use Rattle.std.proofs.Common.{arith, ap, length, ◌<◌, take_all}
use Rattle.layout.specs.Layout.{value_in, present_in}
use Rattle.record_rows.specs.Numbers.{values_of, present_of}
use Rattle.record_grids.specs.Grids.{nodes_row}
use Rattle.record_rows.proofs.Appends.{behind, nothing, same_row}
use Rattle.record_grids.proofs.Appends.{length-nodes, node-more}
use Rattle.record_grids.proofs.append_nodes.Goals as goal

pub loop-node-init : goal.loop-node-init
unfolding nodes_row
loop-node-init c = let a = c.args in
    (nothing a.values.now a.at (omega arith), nothing a.present.now a.at (omega arith))

pub append_shifts-place-requires : goal.append_shifts-place-requires
append_shifts-place-requires c = let l = c.loop-node in
    let n = length-nodes value_in l.node-index c.args.nodes.now in
    (omega (arith, l.invariant.0.place, n), omega (arith, l.invariant.0.place, n))

pub loop-node-preserved : goal.loop-node-preserved
loop-node-preserved c = let l = c.loop-node in
    let ns = c.args.nodes.now in
    let m : l.node-index < length ns = omega arith in (
      same_row (node-more value_in _ ns l.node-index m) (behind _ _ l.invariant.0 c.append_shifts-place.ensures.values),
      same_row (node-more present_in _ ns l.node-index m) (behind _ _ l.invariant.1 c.append_shifts-place.ensures.present),
    )

pub returns : goal.returns
returns c = let l = c.loop-node in
    let ns = c.args.nodes.now in
    let e = take_all l.node-index ns (omega arith) in
    record {
      values = same_row (ap (λ l. values_of (nodes_row l)) e) l.invariant.0;
      present = same_row (ap (λ l. present_of (nodes_row l)) e) l.invariant.1;
      place = omega (arith, l.invariant.0.place, length-nodes value_in l.node-index ns);
    }
