-- `report_prepared::nodes_available` meets its contract: each node below 16 is asked for its value.
-- Assumes nothing.
use Rattle.std.proofs.Common.{rules, refl, ◌∙◌}
use Rattle.std.proofs.lemmas.Iterator.{YieldsList-from_range}
use Rattle.std.proofs.lemmas.Iterator.Search.{all_from_yields_List}
use Rattle.report_prepared.specs.Inner.{node_available, nodes_available}
use Rattle.report_prepared.proofs.Means.{some-available}
use Rattle.report_prepared.proofs.Ranges.{all-of}
use Rattle.report_prepared.proofs.nodes_available.Goals as goal

pub returns : goal.returns
unfolding nodes_available
returns c = let f = node_available c.args.message.now c.args.component in
    all_from_yields_List f _ _ c.all.result c.all.ensures.ran (YieldsList-from_range 0 16 16 refl refl) (λ x b q k. search (rules, some-available)) ∙ all-of f 16
