-- `grid_rows::fill_row` meets its contract: the places in front of i are filled.
-- Assumes nothing.
use mathlib.Core.Path.{◌≡◌, refl, sym, ap, ◌∙◌, subst₂}
use mathlib.Core.List.{List, ◌++◌}
use Prim.Native.Nat.{ℕ, ◌+◌, ◌-◌, ◌≤◌}
use native.Mathlib.Omega.{arith}
use lib.IntN.{ℤ, pos}
use lib.ListN.{length, drop}
use mir.Syntax.{w64}
use mir.Val.{to_z, of_z}
use Rattle.arith.specs.Lists.{up_to}
use Rattle.arith.proofs.Machine.{is-back}
use Rattle.grid_rows.specs.Private.{Answered, count_at}
use Rattle.grid_rows.proofs.Fills.{fills-on}
use Rattle.grid_rows.proofs.fill_row.Goals as goal

pub loop-i-init : goal.loop-i-init
loop-i-init c = (omega arith, refl, refl)

pub fill_from-i-requires : goal.fill_from-i-requires
fill_from-i-requires c = let answered : (room : ℕ) → room ≡ length c.args.row.now → Answered c.args.message.now c.args.f c.args.component (to_z w64 (of_z w64 c.args.north)) (to_z w64 (of_z w64 c.args.east)) c.args.step c.args.count room = λ room q. let a =
    subst₂ (λ (x y : ℤ). Answered c.args.message.now c.args.f c.args.component x y c.args.step c.args.count (length c.args.row.now))
    (sym (is-back c.ranges.north)) (sym (is-back c.ranges.east)) c.requires in
    record { ready = a.ready; none = a.none; enough = rw q a.enough } in
    (answered _ c.loop-i.invariant.1, c.loop-i-test.true)

pub loop-i-preserved : goal.loop-i-preserved
loop-i-preserved c = let counts : ℕ → ℤ = count_at c.args.message.now c.args.component (to_z w64 (of_z w64 c.args.north)) (to_z w64 (of_z w64 c.args.east)) (pos c.args.step) in
    let r = c.fill_from-i.ensures.filled in (
      r.most,
      c.fill_from-i.auto.row ∙ c.loop-i.invariant.1,
      fills-on counts c.args.row.now c.loop-i.row c.loop-i.i c.loop-i.invariant.2 _ _ r.some r.row,
    )

pub returns : goal.returns
returns c = let a = c.args in
    let l = c.loop-i in
    let e : l.i ≡ a.count = omega (arith, c.loop-i-test.false, l.invariant.0) in
    l.invariant.2
    ∙ (λ j. up_to (count_at a.message.now a.component (is-back c.ranges.north j) (is-back c.ranges.east j) (pos a.step)) (e j) ++ drop (e j) a.row.now)

pub loop-i-smaller : goal.loop-i-smaller
loop-i-smaller c = omega (arith, c.fill_from-i.ensures.filled.some, c.fill_from-i.ensures.filled.most)

pub shape_of-row : goal.shape_of-row
shape_of-row c = c.loop-i.invariant.1
