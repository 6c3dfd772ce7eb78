-- `datum_formula::nearest` meets its contract.
-- Assumes nothing.
use Prim.Native.Nat.{◌*◌, ◌^◌}
use native.Mathlib.Omega.{arith}
use lib.Dec.{lit<}
use Rattle.datum_formula.specs.Formula.{About}
use Rattle.datum_formula.proofs.About.{rounded-above, rounded-below}
use Rattle.arith.proofs.Machine.{Num, arg, lit, add, sub, fits, passed, less, not-less}
use Rattle.datum_formula.proofs.Quotient.{quot}
use Rattle.datum_formula.proofs.nearest.Goals as goal

pub returns-then-count-lt0 : goal.returns-then-count-lt0
returns-then-count-lt0 c = let count : Num = arg c.args.count (2 * 10 ^ 18) c.requires tt in
    let below : Num = sub count (lit 5000000 tt) tt in
    let down : Num = quot below 10000000 (3 * 10 ^ 11) tt tt tt in
    passed down (λ z. About 10000000 z c.args.count 5000000)
    (rounded-below 5000000 (omega arith) c.args.count (less count (lit 0 tt) c.if-count-lt0.true))

pub returns : goal.returns
returns c = let count : Num = arg c.args.count (2 * 10 ^ 18) c.requires tt in
    let above : Num = add count (lit 5000000 tt) tt in
    let up : Num = quot above 10000000 (3 * 10 ^ 11) tt tt tt in
    passed up (λ z. About 10000000 z c.args.count 5000000)
    (rounded-above 5000000 (omega arith) c.args.count (not-less count (lit 0 tt) c.if-count-lt0.false))

pub overflow_sub-result : goal.overflow_sub-result
overflow_sub-result c =
    let count : Num = arg c.args.count (2 * 10 ^ 18) c.requires tt in
    let below : Num = sub count (lit 5000000 tt) tt in
    fits below

pub nonzero_div-result : goal.nonzero_div-result
nonzero_div-result c =
    let count : Num = arg c.args.count (2 * 10 ^ 18) c.requires tt in
    let below : Num = sub count (lit 5000000 tt) tt in
    let down : Num = quot below 10000000 (3 * 10 ^ 11) tt tt tt in
    (lit< tt, fits down)

pub overflow_add-result : goal.overflow_add-result
overflow_add-result c =
    let count : Num = arg c.args.count (2 * 10 ^ 18) c.requires tt in
    let above : Num = add count (lit 5000000 tt) tt in
    fits above

pub nonzero_div-result-2 : goal.nonzero_div-result-2
nonzero_div-result-2 c =
    let count : Num = arg c.args.count (2 * 10 ^ 18) c.requires tt in
    let above : Num = add count (lit 5000000 tt) tt in
    let up : Num = quot above 10000000 (3 * 10 ^ 11) tt tt tt in
    (lit< tt, fits up)
