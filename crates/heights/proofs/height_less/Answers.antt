-- `heights::height_less` meets its contract.
-- Assumes nothing.
use Rattle.arith.proofs.Machine.{Num, any, arg, lit, mul, sub_within, fits}
use Rattle.heights_mean.specs.Means.{less}
use Rattle.heights_mean.proofs.Near.{less-most}
use Rattle.heights.proofs.height_less.Goals as goal

pub returns : goal.returns
unfolding less
returns c = let middle : Num = mul (lit 10 tt) (arg c.args.mean 16383 c.requires.0 tt) tt in
    let difference : Num = sub_within (any c.args.height c.ranges.height) middle 255 (less-most c.args.mean c.args.height c.requires.1) tt in
    difference.held

pub overflow_mul-result : goal.overflow_mul-result
overflow_mul-result c =
    let middle : Num = mul (lit 10 tt) (arg c.args.mean 16383 c.requires.0 tt) tt in
    fits middle

pub overflow_sub-result : goal.overflow_sub-result
overflow_sub-result c =
    let middle : Num = mul (lit 10 tt) (arg c.args.mean 16383 c.requires.0 tt) tt in
    let difference : Num = sub_within (any c.args.height c.ranges.height) middle 255 (less-most c.args.mean c.args.height c.requires.1) tt in
    fits difference
