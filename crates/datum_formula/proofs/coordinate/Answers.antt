-- `datum_formula::coordinate` meets its contract.
-- Assumes nothing.
use mathlib.Core.Path.{subst}
use Prim.Native.Nat.{◌≤◌, ◌+◌, ◌*◌, ◌^◌}
use native.Mathlib.Nat.{le_trans}
use lib.Dec.{lit<, lit≤}
use lib.IntN.{ℤ, nat_abs, ◌*ℤ◌}
use mir.Syntax.{w64}
use mir.Val.{to_z}
use Rattle.datum_formula.specs.Formula.{rotation, moved, About}
use Rattle.datum_formula.specs.Private.{rotated}
use Rattle.datum_formula.proofs.Error.{answer-about}
use Rattle.arith.proofs.Machine.{Num, any, arg, lit, mul, add, sub, fits, passed}
use Rattle.datum_formula.proofs.Quotient.{quot}
use Rattle.datum_formula.proofs.coordinate.Goals as goal

-- a rotation and a coordinate as a call reads them
rotated-by-by : (r v : Num) {t : ℤ} → About (10 ^ 17) t (rotation (to_z w64 r.bits) *ℤ to_z w64 v.bits) (10 ^ 22 + 2 * 10 ^ 17)
    → About (10 ^ 17) t (rotation r.z *ℤ v.z) (10 ^ 22 + 2 * 10 ^ 17)
rotated-by-by r v {t} p = subst (λ (z : ℤ). About (10 ^ 17) t z (10 ^ 22 + 2 * 10 ^ 17)) (λ i. rotation (r.held i) *ℤ v.held i) p

pub nearest-requires : goal.nearest-requires
nearest-requires c = let own : Num = mul (arg c.args.own (10 ^ 11) c.requires.place tt) (lit 10000000 tt) tt in
    let ds : Num = arg c.args.ds (2 ^ 24) c.requires.scale tt in
    let d : Num = mul (arg c.args.d (2 ^ 22) c.requires.translation tt) (lit 100000000 tt) tt in
    let first : Num = arg c.rotated_by.result (3 * 10 ^ 17) c.rotated_by.ensures.1 tt in
    let two : Num = add own first tt in
    let second : Num = arg c.rotated_by-2.result (3 * 10 ^ 17) c.rotated_by-2.ensures.1 tt in
    let whole : Num = sub two second tt in
    let units : Num = quot whole 10000000 (16 * 10 ^ 10) tt tt tt in
    let product : Num = mul units ds tt in
    let scale : Num = quot product 10000 (10 ^ 15) tt tt tt in
    let scaled : Num = add whole scale tt in
    let sum : Num = add scaled d tt in
    passed sum (λ z. nat_abs z ≤ 2 * 10 ^ 18) (le_trans sum.le (lit≤ tt))

pub returns : goal.returns
returns c = let own : Num = mul (arg c.args.own (10 ^ 11) c.requires.place tt) (lit 10000000 tt) tt in
    let ds : Num = arg c.args.ds (2 ^ 24) c.requires.scale tt in
    let d : Num = mul (arg c.args.d (2 ^ 22) c.requires.translation tt) (lit 100000000 tt) tt in
    let first : Num = arg c.rotated_by.result (3 * 10 ^ 17) c.rotated_by.ensures.1 tt in
    let two : Num = add own first tt in
    let second : Num = arg c.rotated_by-2.result (3 * 10 ^ 17) c.rotated_by-2.ensures.1 tt in
    let whole : Num = sub two second tt in
    let units : Num = quot whole 10000000 (16 * 10 ^ 10) tt tt tt in
    let product : Num = mul units ds tt in
    let scale : Num = quot product 10000 (10 ^ 15) tt tt tt in
    let scaled : Num = add whole scale tt in
    let sum : Num = add scaled d tt in
    let a : Num = arg c.args.a (10 ^ 11) c.requires.others.0 tt in
    let b : Num = arg c.args.b (10 ^ 11) c.requires.others.1 tt in
    let ra : Num = arg c.args.ra (2 ^ 31) c.requires.rotations.0 tt in
    let rb : Num = arg c.args.rb (2 ^ 31) c.requires.rotations.1 tt in
    passed (any c.nearest.result (record { sfits = c.nearest.type_inv }))
    (λ z. About (10 ^ 35) z (moved c.args.ds (rotated c.args.own c.args.a c.args.b c.args.ra c.args.rb) c.args.d) (521 * 10 ^ 32))
    (answer-about c.args.own c.args.a c.args.b c.args.ra c.args.rb c.args.ds c.args.d first.z second.z
    (rotated-by-by ra a c.rotated_by.ensures.0) (rotated-by-by rb b c.rotated_by-2.ensures.0) c.requires.scale c.nearest.result
    (subst (λ (z : ℤ). About 10000000 c.nearest.result z 5000000) sum.held c.nearest.ensures))

pub overflow_mul-rotation : goal.overflow_mul-rotation
overflow_mul-rotation c =
    let own : Num = mul (arg c.args.own (10 ^ 11) c.requires.place tt) (lit 10000000 tt) tt in
    fits own

pub rotated_by-requires : goal.rotated_by-requires
rotated_by-requires c =
    let a : Num = arg c.args.a (10 ^ 11) c.requires.others.0 tt in
    let ra : Num = arg c.args.ra (2 ^ 31) c.requires.rotations.0 tt in
    (passed ra (λ z. nat_abs z ≤ 2 ^ 31) c.requires.rotations.0, passed a (λ z. nat_abs z ≤ 10 ^ 11) c.requires.others.0)

pub overflow_add-rotation : goal.overflow_add-rotation
overflow_add-rotation c =
    let own : Num = mul (arg c.args.own (10 ^ 11) c.requires.place tt) (lit 10000000 tt) tt in
    let first : Num = arg c.rotated_by.result (3 * 10 ^ 17) c.rotated_by.ensures.1 tt in
    let two : Num = add own first tt in
    fits two

pub rotated_by-requires-2 : goal.rotated_by-requires-2
rotated_by-requires-2 c =
    let b : Num = arg c.args.b (10 ^ 11) c.requires.others.1 tt in
    let rb : Num = arg c.args.rb (2 ^ 31) c.requires.rotations.1 tt in
    (passed rb (λ z. nat_abs z ≤ 2 ^ 31) c.requires.rotations.1, passed b (λ z. nat_abs z ≤ 10 ^ 11) c.requires.others.1)

pub overflow_sub-rotation : goal.overflow_sub-rotation
overflow_sub-rotation c =
    let own : Num = mul (arg c.args.own (10 ^ 11) c.requires.place tt) (lit 10000000 tt) tt in
    let first : Num = arg c.rotated_by.result (3 * 10 ^ 17) c.rotated_by.ensures.1 tt in
    let two : Num = add own first tt in
    let second : Num = arg c.rotated_by-2.result (3 * 10 ^ 17) c.rotated_by-2.ensures.1 tt in
    let whole : Num = sub two second tt in
    fits whole

pub nonzero_div-scale : goal.nonzero_div-scale
nonzero_div-scale c =
    let own : Num = mul (arg c.args.own (10 ^ 11) c.requires.place tt) (lit 10000000 tt) tt in
    let first : Num = arg c.rotated_by.result (3 * 10 ^ 17) c.rotated_by.ensures.1 tt in
    let two : Num = add own first tt in
    let second : Num = arg c.rotated_by-2.result (3 * 10 ^ 17) c.rotated_by-2.ensures.1 tt in
    let whole : Num = sub two second tt in
    let units : Num = quot whole 10000000 (16 * 10 ^ 10) tt tt tt in
    (lit< tt, fits units)

pub overflow_mul-scale : goal.overflow_mul-scale
overflow_mul-scale c =
    let own : Num = mul (arg c.args.own (10 ^ 11) c.requires.place tt) (lit 10000000 tt) tt in
    let ds : Num = arg c.args.ds (2 ^ 24) c.requires.scale tt in
    let first : Num = arg c.rotated_by.result (3 * 10 ^ 17) c.rotated_by.ensures.1 tt in
    let two : Num = add own first tt in
    let second : Num = arg c.rotated_by-2.result (3 * 10 ^ 17) c.rotated_by-2.ensures.1 tt in
    let whole : Num = sub two second tt in
    let units : Num = quot whole 10000000 (16 * 10 ^ 10) tt tt tt in
    let product : Num = mul units ds tt in
    fits product

pub nonzero_div-scale-2 : goal.nonzero_div-scale-2
nonzero_div-scale-2 c =
    let own : Num = mul (arg c.args.own (10 ^ 11) c.requires.place tt) (lit 10000000 tt) tt in
    let ds : Num = arg c.args.ds (2 ^ 24) c.requires.scale tt in
    let first : Num = arg c.rotated_by.result (3 * 10 ^ 17) c.rotated_by.ensures.1 tt in
    let two : Num = add own first tt in
    let second : Num = arg c.rotated_by-2.result (3 * 10 ^ 17) c.rotated_by-2.ensures.1 tt in
    let whole : Num = sub two second tt in
    let units : Num = quot whole 10000000 (16 * 10 ^ 10) tt tt tt in
    let product : Num = mul units ds tt in
    let scale : Num = quot product 10000 (10 ^ 15) tt tt tt in
    (lit< tt, fits scale)

pub overflow_add-rotation-2 : goal.overflow_add-rotation-2
overflow_add-rotation-2 c =
    let own : Num = mul (arg c.args.own (10 ^ 11) c.requires.place tt) (lit 10000000 tt) tt in
    let ds : Num = arg c.args.ds (2 ^ 24) c.requires.scale tt in
    let first : Num = arg c.rotated_by.result (3 * 10 ^ 17) c.rotated_by.ensures.1 tt in
    let two : Num = add own first tt in
    let second : Num = arg c.rotated_by-2.result (3 * 10 ^ 17) c.rotated_by-2.ensures.1 tt in
    let whole : Num = sub two second tt in
    let units : Num = quot whole 10000000 (16 * 10 ^ 10) tt tt tt in
    let product : Num = mul units ds tt in
    let scale : Num = quot product 10000 (10 ^ 15) tt tt tt in
    let scaled : Num = add whole scale tt in
    fits scaled

pub overflow_mul-d : goal.overflow_mul-d
overflow_mul-d c =
    let d : Num = mul (arg c.args.d (2 ^ 22) c.requires.translation tt) (lit 100000000 tt) tt in
    fits d

pub overflow_add-rotation-3 : goal.overflow_add-rotation-3
overflow_add-rotation-3 c =
    let own : Num = mul (arg c.args.own (10 ^ 11) c.requires.place tt) (lit 10000000 tt) tt in
    let ds : Num = arg c.args.ds (2 ^ 24) c.requires.scale tt in
    let d : Num = mul (arg c.args.d (2 ^ 22) c.requires.translation tt) (lit 100000000 tt) tt in
    let first : Num = arg c.rotated_by.result (3 * 10 ^ 17) c.rotated_by.ensures.1 tt in
    let two : Num = add own first tt in
    let second : Num = arg c.rotated_by-2.result (3 * 10 ^ 17) c.rotated_by-2.ensures.1 tt in
    let whole : Num = sub two second tt in
    let units : Num = quot whole 10000000 (16 * 10 ^ 10) tt tt tt in
    let product : Num = mul units ds tt in
    let scale : Num = quot product 10000 (10 ^ 15) tt tt tt in
    let scaled : Num = add whole scale tt in
    let sum : Num = add scaled d tt in
    fits sum
