-- `grid_component::part_at` meets its contract.
-- Assumes nothing.
use mathlib.Core.Path.{◌∙◌}
use Rattle.arith.proofs.Machine.{is-back}
use Rattle.grid_component.specs.Inner.{counted_by}
use Rattle.grid_component.proofs.Counts.{counted_is}
use Rattle.grid_component.proofs.part_at.Goals as goal

pub returns : goal.returns
returns c = let a = c.args in
    c.count_at.ensures
    ∙ (λ i. counted_by a.message.now (c.keep-kept.ensures i) a.component (is-back c.ranges.north i) (is-back c.ranges.east i))
    ∙ counted_is a.message.now a.component a.north a.east
