-- `grid_direction::along` meets its contract.
-- Assumes nothing.
use Rattle.std.proofs.Common.{rules, ◌<◌, nat_abs}
use Rattle.grid_direction.proofs.Placed.{along-out, unplaced-is, far-outside, unplaced-range}
use Rattle.grid_direction.proofs.along.Goals as goal

pub returns-then-not-contains : goal.returns-then-not-contains
returns-then-not-contains c = along-out c.args.spacing c.args.difference c.outer.ensures (unplaced-range c.args.spacing c.args.difference (λ p q. search rules))

pub returns-then-unsigned_abs-gt10000000000000 : goal.returns-then-unsigned_abs-gt10000000000000
returns-then-unsigned_abs-gt10000000000000 c = let far : 10000000000000 < nat_abs c.args.difference = search rules in along-out c.args.spacing c.args.difference c.outer-then-unsigned_abs-gt10000000000000.ensures (unplaced-is c.args.spacing c.args.difference (search rules) (search rules) (far-outside c.args.spacing c.args.difference (search rules) far))
