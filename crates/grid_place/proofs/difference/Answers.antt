-- `grid_place::difference` meets its contract.
-- Assumes nothing.
use Rattle.arith.proofs.Machine.{Num, arg, cast, mul, sub, fits}
use Rattle.grid_place.proofs.difference.Goals as goal

pub overflow_mul-result : goal.overflow_mul-result
overflow_mul-result c =
    let middle : Num = mul (cast c.args.steps 10000 c.requires.2 tt) (arg c.args.origin 67108864 c.requires.1 tt) tt in
    fits middle

pub overflow_sub-result : goal.overflow_sub-result
overflow_sub-result c =
    let middle : Num = mul (cast c.args.steps 10000 c.requires.2 tt) (arg c.args.origin 67108864 c.requires.1 tt) tt in
    let apart : Num = sub (arg c.args.position 1000000000000 c.requires.0 tt) middle tt in
    fits apart

pub returns : goal.returns
returns c =
    let middle : Num = mul (cast c.args.steps 10000 c.requires.2 tt) (arg c.args.origin 67108864 c.requires.1 tt) tt in
    let apart : Num = sub (arg c.args.position 1000000000000 c.requires.0 tt) middle tt in
    apart.held
