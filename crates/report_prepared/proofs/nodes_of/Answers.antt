-- `report_prepared::nodes_of` meets its contract: each place is filled by the value of its node.
-- Assumes nothing.
use Rattle.std.proofs.Common.{rules, pos}
use Rattle.std.proofs.lemmas.Int.{to_z-of_z}
use Rattle.report_prepared.specs.Inner.{node_value, node_values}
use Rattle.report_prepared.proofs.Filled.{filled}
use Rattle.report_prepared.proofs.nodes_of.Goals as goal

pub returns : goal.returns
unfolding node_values
returns c = let a = c.args in
    filled _ (node_value a.message.now a.component) _ (λ i y q k. search (rules, to_z-of_z)) c.from_fn.result 16 (pos 0) c.from_fn.ensures.items
