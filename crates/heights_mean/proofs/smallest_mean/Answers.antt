-- `heights_mean::smallest_mean` meets its contract.
-- Assumes nothing.
use mathlib.Core.Path.{◌∙◌}
use Rattle.arith.proofs.Back.{held}
use Rattle.heights_mean.proofs.Choice.{best}
use Rattle.heights_mean.proofs.smallest_mean.Goals as goal

pub returns : goal.returns
returns c = let top = held c.greatest_of.result c.greatest_of.type_inv ∙ c.greatest_of.ensures in
    let mean = held c.least_mean-m.result c.least_mean-m.type_inv in
    rw (c.then_some.ensures, c.all_near.ensures, mean) (best c.args.wanted.now _ (rw top at c.least_mean-m.ensures))

pub all_near-requires : goal.all_near-requires
all_near-requires c = rw (held c.least_mean-m.result c.least_mean-m.type_inv) c.least_mean-m.ensures.range
