-- `datum_formula::radians` meets its contract.
-- Assumes nothing.
use Prim.Native.Nat.{◌≤◌, ◌+◌, ◌*◌, ◌^◌}
use lib.Dec.{lit<}
use lib.IntN.{nat_abs}
use Rattle.datum_formula.specs.Formula.{rotation, About}
use Rattle.datum_formula.proofs.Error.{radians-about}
use Rattle.arith.proofs.Machine.{Num, arg, lit, mul, add, fits, passed}
use Rattle.datum_formula.proofs.Quotient.{quot}
use Rattle.datum_formula.proofs.radians.Goals as goal

pub returns : goal.returns
returns c = let r : Num = arg c.args.r (2 ^ 31) c.requires tt in
    let high : Num = mul r (lit 96962736 tt) tt in
    let low : Num = quot (mul r (lit 221907 tt) tt) 1000000 500000000 tt tt tt in
    let angle : Num = quot (add high low tt) 100000 (21 * 10 ^ 11) tt tt tt in
    passed angle (λ z. About (10 ^ 11) z (rotation c.args.r) (10 ^ 11 + 10 ^ 6) × (nat_abs z ≤ 21 * 10 ^ 11)) (radians-about c.args.r, angle.le)

pub overflow_mul-result : goal.overflow_mul-result
overflow_mul-result c =
    let r : Num = arg c.args.r (2 ^ 31) c.requires tt in
    let high : Num = mul r (lit 96962736 tt) tt in
    fits high

pub overflow_mul-result-2 : goal.overflow_mul-result-2
overflow_mul-result-2 c =
    let r : Num = arg c.args.r (2 ^ 31) c.requires tt in
    fits (mul r (lit 221907 tt) tt)

pub nonzero_div-result : goal.nonzero_div-result
nonzero_div-result c =
    let r : Num = arg c.args.r (2 ^ 31) c.requires tt in
    let low : Num = quot (mul r (lit 221907 tt) tt) 1000000 500000000 tt tt tt in
    (lit< tt, fits low)

pub overflow_add-result : goal.overflow_add-result
overflow_add-result c =
    let r : Num = arg c.args.r (2 ^ 31) c.requires tt in
    let high : Num = mul r (lit 96962736 tt) tt in
    let low : Num = quot (mul r (lit 221907 tt) tt) 1000000 500000000 tt tt tt in
    fits (add high low tt)

pub nonzero_div-result-2 : goal.nonzero_div-result-2
nonzero_div-result-2 c =
    let r : Num = arg c.args.r (2 ^ 31) c.requires tt in
    let high : Num = mul r (lit 96962736 tt) tt in
    let low : Num = quot (mul r (lit 221907 tt) tt) 1000000 500000000 tt tt tt in
    let angle : Num = quot (add high low tt) 100000 (21 * 10 ^ 11) tt tt tt in
    (lit< tt, fits angle)
