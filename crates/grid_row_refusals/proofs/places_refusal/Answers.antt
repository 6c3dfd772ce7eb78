-- `grid_row_refusals::places_refusal` meets its contract: the places passed are not refused.
-- Assumes nothing.
use mathlib.Core.Path.{◌≡◌, refl, sym, ap, ◌∙◌, subst₂}
use mathlib.Core.List.{List}
use Prim.Native.Nat.{ℕ, ◌+◌, ◌-◌, ◌≤◌}
use native.Mathlib.Omega.{arith}
use lib.IntN.{ℤ, pos}
use mir.Syntax.{w64}
use mir.Val.{to_z, of_z}
use Rattle.arith.proofs.Machine.{is-back}
use Rattle.grid_row_refusals.specs.Private.{Ready, Looked, first_refused}
use Rattle.grid_row_refusals.proofs.Rest.{passes_on, stops-there}
use Rattle.grid_row_refusals.proofs.places_refusal.Goals as goal

pub loop-i-init : goal.loop-i-init
loop-i-init c = (omega arith, unfold first_refused in refl)

pub returns-then-r-ne0 : goal.returns-then-r-ne0
returns-then-r-ne0 c = let n : ℤ = to_z w64 (of_z w64 c.args.north) in
    let e : ℤ = to_z w64 (of_z w64 c.args.east) in
    let i : ℕ = c.loop-i.i in
    let looked : Looked c.args.message.now c.args.component n e c.args.step i (c.args.count - i) c.look_from-r.result = c.look_from-r.ensures in
    let inside : i + c.look_from-r.result.places ≤ c.args.count = omega (arith, looked.most, c.loop-i-test.true) in
    let a = c.args in
    stops-there a.message.now a.component n e (pos a.step) i c.look_from-r.result.places a.count c.loop-i.invariant.1
    looked.refusal c.if-r-ne0.true inside
    ∙ (λ j. first_refused a.message.now a.component (is-back c.ranges.north j) (is-back c.ranges.east j) (pos a.step) 0 a.count)

pub loop-i-preserved : goal.loop-i-preserved
loop-i-preserved c = let n : ℤ = to_z w64 (of_z w64 c.args.north) in
    let e : ℤ = to_z w64 (of_z w64 c.args.east) in
    let i : ℕ = c.loop-i.i in
    let looked : Looked c.args.message.now c.args.component n e c.args.step i (c.args.count - i) c.look_from-r.result = c.look_from-r.ensures in
    let inside : i + c.look_from-r.result.places ≤ c.args.count = omega (arith, looked.most, c.loop-i-test.true) in
    let a = c.args in (
      inside,
      passes_on a.message.now a.component n e (pos a.step) i c.look_from-r.result.places c.loop-i.invariant.1
          ∙ sym looked.refusal ∙ c.if-r-ne0.false,
    )

pub returns : goal.returns
returns c = let a = c.args in
    let l = c.loop-i in
    let all : l.i ≡ a.count = omega (arith, c.loop-i-test.false, l.invariant.0) in
    sym l.invariant.1
    ∙ (λ j. first_refused a.message.now a.component (is-back c.ranges.north j) (is-back c.ranges.east j) (pos a.step) 0 (all j))

pub look_from-r-requires : goal.look_from-r-requires
look_from-r-requires c =
    let n : ℤ = to_z w64 (of_z w64 c.args.north) in
    let e : ℤ = to_z w64 (of_z w64 c.args.east) in
    let ready : Ready c.args.message.now c.args.f n e c.args.step c.args.count = subst₂ (λ (x y : ℤ). Ready c.args.message.now c.args.f x y c.args.step c.args.count) (sym (is-back c.ranges.north)) (sym (is-back c.ranges.east))
    c.requires in
    (ready, c.loop-i-test.true)

pub overflow_add-i : goal.overflow_add-i
overflow_add-i c =
    let n : ℤ = to_z w64 (of_z w64 c.args.north) in
    let e : ℤ = to_z w64 (of_z w64 c.args.east) in
    let i : ℕ = c.loop-i.i in
    let looked : Looked c.args.message.now c.args.component n e c.args.step i (c.args.count - i) c.look_from-r.result = c.look_from-r.ensures in
    let inside : i + c.look_from-r.result.places ≤ c.args.count = omega (arith, looked.most, c.loop-i-test.true) in
    omega (arith, inside, c.requires.most)

pub loop-i-smaller : goal.loop-i-smaller
loop-i-smaller c =
    let n : ℤ = to_z w64 (of_z w64 c.args.north) in
    let e : ℤ = to_z w64 (of_z w64 c.args.east) in
    let i : ℕ = c.loop-i.i in
    let looked : Looked c.args.message.now c.args.component n e c.args.step i (c.args.count - i) c.look_from-r.result = c.look_from-r.ensures in
    let inside : i + c.look_from-r.result.places ≤ c.args.count = omega (arith, looked.most, c.loop-i-test.true) in
    omega (arith, inside, looked.some)
