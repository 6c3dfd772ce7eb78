-- `grid_direction::axis` meets its contract.
-- Assumes nothing.
use Rattle.std.proofs.Common.{◌≡◌, refl, ap, ◌∙◌, true, false, nat_abs, arith}
use Rattle.std.proofs.lemmas.Int.{ints}
use Rattle.grid_bilinear.specs.Bilinear.{from_edge, outside, cell}
use Rattle.grid_direction.proofs.Placed.{along-out, unplaced-is, along-in}
use Rattle.grid_direction.proofs.axis.Goals as goal

pub returns-in_default : goal.returns-in_default
unfolding outside from_edge
returns-in_default c = let o : outside c.args.d c.args.u ≡ true = grind (arith, ints) in
    along-out c.args.d c.args.u c.outer.ensures (unplaced-is c.args.d c.args.u c.requires.1 c.requires.2 o)

pub returns-then-d-steps : goal.returns-then-d-steps
unfolding outside from_edge
returns-then-d-steps c = let o : outside c.args.d c.args.u ≡ true = grind (arith, ints) in
    along-out c.args.d c.args.u c.outer-then-d-steps.ensures (unplaced-is c.args.d c.args.u c.requires.1 c.requires.2 o)

pub returns : goal.returns
unfolding outside from_edge
returns c = let o : outside c.args.d c.args.u ≡ false = grind (arith, ints) in
    let t : c.in-Ok.steps ≡ nat_abs (from_edge c.args.d c.args.u) = grind (arith, ints) in
    along-in c.args.d c.args.u c.requires.1 c.requires.2 refl t (c.cell_of.ensures ∙ ap (cell c.args.d) t) o
