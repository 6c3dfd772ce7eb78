-- `grid_rows::increments::fill` meets its contract: the counts in front of place i are filled.
-- Assumes nothing.
use mathlib.Core.Path.{◌≡◌, sym, ap, ◌∙◌, subst}
use Prim.Native.Nat.{ℕ, ◌-◌, ◌≤◌}
use native.Mathlib.Nat.{le_trans}
use native.Mathlib.Omega.{arith}
use lib.IntN.{ℤ, nat_abs}
use lib.ListN.{length}
use mir.Syntax.{w64}
use mir.Val.{to_z, of_z}
use Rattle.arith.specs.Lists.{up_to}
use Rattle.arith.proofs.Back.{held}
use Rattle.arith.proofs.Machine.{is-back}
use Rattle.grid_rows.specs.Private.{Fillable, counts_from}
use Rattle.grid_rows.proofs.Run.{On, sum, starts, goes_on, whole-most, ends}
use Rattle.grid_rows.proofs.increments.fill.Goals as goal

pub loop-i-init : goal.loop-i-init
loop-i-init c = let m : ℤ = to_z w64 (of_z w64 c.args.mean) in
    let goes : Fillable m c.args.first c.args.by c.args.area (length c.args.row.now) = subst (λ (z : ℤ). Fillable z c.args.first c.args.by c.args.area (length c.args.row.now)) (sym (is-back c.ranges.mean)) c.requires in
    starts m c.args.area c.args.first c.args.by c.args.row.now goes

pub count_of-requires : goal.count_of-requires
count_of-requires c = let m : ℤ = to_z w64 (of_z w64 c.args.mean) in
    let goes : Fillable m c.args.first c.args.by c.args.area (length c.args.row.now) = subst (λ (z : ℤ). Fillable z c.args.first c.args.by c.args.area (length c.args.row.now)) (sym (is-back c.ranges.mean)) c.requires in
    let whole : nat_abs c.loop-i.p.whole ≤ 10000000000 = whole-most m c.args.area c.args.first c.args.by c.args.row.now goes c.loop-i.invariant in
    (c.loop-i.invariant.rest, whole, le_trans goes.level (omega arith))

pub next-p-requires : goal.next-p-requires
next-p-requires c = let m : ℤ = to_z w64 (of_z w64 c.args.mean) in
    let goes : Fillable m c.args.first c.args.by c.args.area (length c.args.row.now) = subst (λ (z : ℤ). Fillable z c.args.first c.args.by c.args.area (length c.args.row.now)) (sym (is-back c.ranges.mean)) c.requires in
    let whole : nat_abs c.loop-i.p.whole ≤ 10000000000 = whole-most m c.args.area c.args.first c.args.by c.args.row.now goes c.loop-i.invariant in
    (c.loop-i.invariant.rest, goes.grows, whole, goes.slope)

pub loop-i-preserved : goal.loop-i-preserved
loop-i-preserved c = let m : ℤ = to_z w64 (of_z w64 c.args.mean) in
    let goes : Fillable m c.args.first c.args.by c.args.area (length c.args.row.now) = subst (λ (z : ℤ). Fillable z c.args.first c.args.by c.args.area (length c.args.row.now)) (sym (is-back c.ranges.mean)) c.requires in
    let a = c.args in
    goes_on m a.area a.first a.by a.row.now goes c.loop-i.invariant _ c.next-p.result
    (omega (arith, c.loop-i-test.true, c.loop-i.invariant.length)) (held c.count_of.result c.count_of.type_inv ∙ c.count_of.ensures) c.next-p.ensures

pub returns : goal.returns
returns c = let m : ℤ = to_z w64 (of_z w64 c.args.mean) in
    let goes : Fillable m c.args.first c.args.by c.args.area (length c.args.row.now) = subst (λ (z : ℤ). Fillable z c.args.first c.args.by c.args.area (length c.args.row.now)) (sym (is-back c.ranges.mean)) c.requires in
    let l = c.loop-i.invariant in
    ends m c.args.area c.args.first c.args.by c.args.row.now goes l (omega (arith, c.loop-i-test.false, l.length))
    ∙ ap (λ (z : ℤ). up_to (counts_from z c.args.area (sum c.args.area c.args.first) (sum c.args.area c.args.by)) (length c.args.row.now)) (is-back c.ranges.mean)

pub offset_bounds-row-i : goal.offset_bounds-row-i
offset_bounds-row-i c = omega (arith, c.loop-i.invariant.places, c.requires.places)

pub bounds-row-i : goal.bounds-row-i
bounds-row-i c = omega (arith, c.loop-i-test.true)

pub overflow_add-i : goal.overflow_add-i
overflow_add-i c = omega (arith, c.loop-i.invariant.places, c.requires.places)

pub loop-i-smaller : goal.loop-i-smaller
loop-i-smaller c = omega (arith, c.loop-i-test.true, c.loop-i.invariant.length)

pub shape_of-row : goal.shape_of-row
shape_of-row c = c.loop-i.invariant.length
