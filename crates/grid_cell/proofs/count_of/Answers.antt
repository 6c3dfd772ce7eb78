-- `grid_cell::count_of` meets its contract.
-- Assumes nothing.
use Rattle.std.proofs.Common.{◌∙◌, nat_abs, ◌*◌, ◌≤◌}
use Rattle.std.proofs.Math.Nat.{mul-le-mul_left, le_trans}
use Rattle.arith.proofs.Machine.{Num, arg, result, add, fits, passed}
use Rattle.grid_bilinear.specs.Bilinear.{nearest_whole}
use Rattle.grid_cell.proofs.Sum.{sum-by-most, near-by-most}
use Rattle.grid_cell.proofs.count_of.Goals as goal

pub nearest_to-requires-clause-size : goal.nearest_to-requires-clause-size
nearest_to-requires-clause-size c = let sum : Num = result c.sum_by-sum.result (2560 * 1676902500000000) c.sum_by-sum.ensures
    (le_trans (sum-by-most c.args.k c.args.factor c.args.n c.requires.3 c.requires.1) (mul-le-mul_left 2560 c.requires.0.most)) tt in
    passed sum (λ z. nat_abs z ≤ 2560 * 1676902500000000) sum.le

pub overflow_add-result : goal.overflow_add-result
overflow_add-result c =
    let sum : Num = result c.sum_by-sum.result (2560 * 1676902500000000) c.sum_by-sum.ensures
    (le_trans (sum-by-most c.args.k c.args.factor c.args.n c.requires.3 c.requires.1) (mul-le-mul_left 2560 c.requires.0.most)) tt in
    let count : Num = add (arg c.args.mean 1638400 c.requires.2 tt)
    (result c.nearest_to.result 2560 (c.nearest_to.ensures ∙ (λ i. nearest_whole (sum.held i) (c.area_of.ensures i)))
    (near-by-most c.args.k c.args.factor c.args.n c.requires.3 c.requires.1 c.requires.0.some) tt) tt in
    fits count

pub returns : goal.returns
returns c = let sum : Num = result c.sum_by-sum.result (2560 * 1676902500000000) c.sum_by-sum.ensures
    (le_trans (sum-by-most c.args.k c.args.factor c.args.n c.requires.3 c.requires.1) (mul-le-mul_left 2560 c.requires.0.most)) tt in
    let count : Num = add (arg c.args.mean 1638400 c.requires.2 tt)
    (result c.nearest_to.result 2560 (c.nearest_to.ensures ∙ (λ i. nearest_whole (sum.held i) (c.area_of.ensures i)))
    (near-by-most c.args.k c.args.factor c.args.n c.requires.3 c.requires.1 c.requires.0.some) tt) tt in
    count.held
