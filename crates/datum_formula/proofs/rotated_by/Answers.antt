-- `datum_formula::rotated_by` meets its contract.
-- Assumes nothing.
use mathlib.Core.Path.{subst}
use Prim.Native.Nat.{◌≤◌, ◌+◌, ◌*◌, ◌^◌}
use native.Mathlib.Nat.{le_trans}
use native.Mathlib.Omega.{arith}
use lib.Dec.{lit<, lit≤}
use lib.IntN.{ℤ, nat_abs, ◌*ℤ◌}
use Rattle.datum_formula.specs.Formula.{rotation, About}
use Rattle.datum_formula.proofs.About.{rest-most}
use Rattle.datum_formula.proofs.Error.{rotated-by-about}
use Rattle.arith.proofs.Machine.{Num, arg, lit, mul, add, sub_within, fits, passed}
use Rattle.datum_formula.proofs.Quotient.{quot}
use Rattle.datum_formula.proofs.rotated_by.Goals as goal

pub radians-a-requires : goal.radians-a-requires
radians-a-requires c = passed (arg c.args.r (2 ^ 31) c.requires.0 tt) (λ z. nat_abs z ≤ 2 ^ 31) c.requires.0

pub returns : goal.returns
returns c = let v : Num = arg c.args.v (10 ^ 11) c.requires.1 tt in
    let about : About (10 ^ 11) c.radians-a.result (rotation c.args.r) (10 ^ 11 + 10 ^ 6) = subst (λ (z : ℤ). About (10 ^ 11) c.radians-a.result (rotation z) (10 ^ 11 + 10 ^ 6)) (arg c.args.r (2 ^ 31) c.requires.0 tt).held c.radians-a.ensures.0 in
    let angle : Num = arg c.radians-a.result (21 * 10 ^ 11) c.radians-a.ensures.1 tt in
    let high : Num = quot v 1000000 100000 tt tt tt in
    let below : Num = mul high (lit 1000000 tt) tt in
    let low : Num = sub_within v below 1000000 (rest-most c.args.v 1000000 (omega arith)) tt in
    let coarse : Num = mul angle high tt in
    let fine : Num = mul angle low tt in
    let rest : Num = quot fine 1000000 (21 * 10 ^ 11) tt tt tt in
    let sum : Num = add coarse rest tt in
    passed sum (λ z. About (10 ^ 17) z (rotation c.args.r *ℤ c.args.v) (10 ^ 22 + 2 * 10 ^ 17) × (nat_abs z ≤ 3 * 10 ^ 17))
    (rotated-by-about angle.z c.args.r c.args.v high.z about c.requires.1, le_trans sum.le (lit≤ tt))

pub nonzero_div-high : goal.nonzero_div-high
nonzero_div-high c =
    let v : Num = arg c.args.v (10 ^ 11) c.requires.1 tt in
    let high : Num = quot v 1000000 100000 tt tt tt in
    (lit< tt, fits high)

pub overflow_mul-low : goal.overflow_mul-low
overflow_mul-low c =
    let v : Num = arg c.args.v (10 ^ 11) c.requires.1 tt in
    let high : Num = quot v 1000000 100000 tt tt tt in
    let below : Num = mul high (lit 1000000 tt) tt in
    fits below

pub overflow_sub-low : goal.overflow_sub-low
overflow_sub-low c =
    let v : Num = arg c.args.v (10 ^ 11) c.requires.1 tt in
    let high : Num = quot v 1000000 100000 tt tt tt in
    let below : Num = mul high (lit 1000000 tt) tt in
    let low : Num = sub_within v below 1000000 (rest-most c.args.v 1000000 (omega arith)) tt in
    fits low

pub overflow_mul-result : goal.overflow_mul-result
overflow_mul-result c =
    let v : Num = arg c.args.v (10 ^ 11) c.requires.1 tt in
    let angle : Num = arg c.radians-a.result (21 * 10 ^ 11) c.radians-a.ensures.1 tt in
    let high : Num = quot v 1000000 100000 tt tt tt in
    let coarse : Num = mul angle high tt in
    fits coarse

pub overflow_mul-result-2 : goal.overflow_mul-result-2
overflow_mul-result-2 c =
    let v : Num = arg c.args.v (10 ^ 11) c.requires.1 tt in
    let angle : Num = arg c.radians-a.result (21 * 10 ^ 11) c.radians-a.ensures.1 tt in
    let high : Num = quot v 1000000 100000 tt tt tt in
    let below : Num = mul high (lit 1000000 tt) tt in
    let low : Num = sub_within v below 1000000 (rest-most c.args.v 1000000 (omega arith)) tt in
    let fine : Num = mul angle low tt in
    fits fine

pub nonzero_div-result : goal.nonzero_div-result
nonzero_div-result c =
    let v : Num = arg c.args.v (10 ^ 11) c.requires.1 tt in
    let angle : Num = arg c.radians-a.result (21 * 10 ^ 11) c.radians-a.ensures.1 tt in
    let high : Num = quot v 1000000 100000 tt tt tt in
    let below : Num = mul high (lit 1000000 tt) tt in
    let low : Num = sub_within v below 1000000 (rest-most c.args.v 1000000 (omega arith)) tt in
    let fine : Num = mul angle low tt in
    let rest : Num = quot fine 1000000 (21 * 10 ^ 11) tt tt tt in
    (lit< tt, fits rest)

pub overflow_add-result : goal.overflow_add-result
overflow_add-result c =
    let v : Num = arg c.args.v (10 ^ 11) c.requires.1 tt in
    let angle : Num = arg c.radians-a.result (21 * 10 ^ 11) c.radians-a.ensures.1 tt in
    let high : Num = quot v 1000000 100000 tt tt tt in
    let below : Num = mul high (lit 1000000 tt) tt in
    let low : Num = sub_within v below 1000000 (rest-most c.args.v 1000000 (omega arith)) tt in
    let coarse : Num = mul angle high tt in
    let fine : Num = mul angle low tt in
    let rest : Num = quot fine 1000000 (21 * 10 ^ 11) tt tt tt in
    let sum : Num = add coarse rest tt in
    fits sum
