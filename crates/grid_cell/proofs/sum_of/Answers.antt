-- `grid_cell::sum_of` meets its contract.
-- Assumes nothing.
use mathlib.Core.Path.{◌≡◌, ap, ◌∙◌}
use Prim.Native.Nat.{◌≤◌}
use Rattle.arith.proofs.Back.{held}
use Rattle.grid_bilinear.specs.Bilinear.{weighted}
use Rattle.grid_cell.specs.Inner.{area_of, sum_by}
use Rattle.grid_cell.specs.declared.Weights.{Weights}
use Rattle.grid_cell.proofs.Sum.{weighed}
use Rattle.grid_cell.proofs.sum_of.Goals as goal

light : {k l : Weights} → k ≡ l → area_of l ≤ 1676902500000000 → area_of k ≤ 1676902500000000
light e h = rw e h

pub sum_by-requires : goal.sum_by-requires
sum_by-requires c = (light c.weights_of.ensures (weighed c.requires.0).most, c.requires.1, c.requires.2)

pub returns : goal.returns
unfolding weighted
returns c = held c.sum_by.result c.sum_by.type_inv ∙ c.sum_by.ensures ∙ ap (λ (k : Weights). sum_by c.args.factor k c.args.n) c.weights_of.ensures
