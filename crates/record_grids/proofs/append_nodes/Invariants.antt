-- `record_grids::append_nodes` meets its contract: one node behind another in both buffers.
-- Assumes nothing.
use Rattle.std.proofs.Common.{take}
use Rattle.record_rows.specs.Private.{Appended}
use Rattle.record_rows.specs.Numbers.{values_of, present_of}
use Rattle.record_grids.specs.Grids.{nodes_row}
use Rattle.record_grids.proofs.append_nodes.Given as goal

abbrev pub invariant-loop-node : goal.invariant-loop-node
invariant-loop-node l =
    Appended l.initial.values l.at (values_of (nodes_row (take l.node-index l.nodes))) l.place l.values
    × Appended l.initial.present l.at (present_of (nodes_row (take l.node-index l.nodes))) l.place l.present
