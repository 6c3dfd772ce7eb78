-- `grid_place::east_difference` meets its contract.
-- Assumes nothing.
use mathlib.Core.Path.{◌≡◌, sym, ap, ◌∙◌, subst}
use mathlib.Core.Bool.{Bool, true, false, cond}
use Prim.Native.Nat.{◌≤◌}
use lib.IntN.{ℤ, pos, nat_abs, ◌-ℤ◌, ◌*ℤ◌}
use mir.Syntax.{w64}
use mir.Val.{to_z, of_z}
use Rattle.arith.proofs.Back.{held}
use Rattle.arith.proofs.Machine.{is-back}
use Rattle.arith.proofs.Order.{signed-tests}
use Rattle.grid_refusals.specs.Refusals.{ellipsoidal}
use Rattle.grid_place.specs.Position.{by_turns}
use Rattle.grid_place.proofs.east_difference.Goals as goal

pub by_turns-requires : goal.by_turns-requires
by_turns-requires c = let u : ℤ = c.args.position -ℤ pos c.args.steps *ℤ c.args.origin in
    let difference : to_z w64 (of_z w64 c.difference-d.result) ≡ u = held c.difference-d.result c.difference-d.type_inv
    ∙ c.difference-d.ensures
    ∙ (λ i. is-back c.ranges.position i -ℤ pos c.args.steps *ℤ is-back c.ranges.origin i) in
    let longitudes : ellipsoidal c.args.kind ≡ true = search signed-tests in
    subst (λ (x : ℤ). nat_abs x ≤ 12960000000) (sym difference) (c.requires.3 longitudes)

turned : (b : Bool) (x : ℤ) → b ≡ true → by_turns x ≡ cond b (by_turns x) x
turned b x e = rw e

plain : (b : Bool) (x : ℤ) → b ≡ false → x ≡ cond b (by_turns x) x
plain b x e = rw e

pub returns-then-kind-eq1023 : goal.returns-then-kind-eq1023
returns-then-kind-eq1023 c = let u : ℤ = c.args.position -ℤ pos c.args.steps *ℤ c.args.origin in
    let difference : to_z w64 (of_z w64 c.difference-d.result) ≡ u = held c.difference-d.result c.difference-d.type_inv
    ∙ c.difference-d.ensures
    ∙ (λ i. is-back c.ranges.position i -ℤ pos c.args.steps *ℤ is-back c.ranges.origin i) in
    let longitudes : ellipsoidal c.args.kind ≡ true = search signed-tests in
    held c.by_turns.result c.by_turns.type_inv
    ∙ c.by_turns.ensures ∙ ap by_turns difference ∙ turned (ellipsoidal c.args.kind) u longitudes

pub returns : goal.returns
returns c = let u : ℤ = c.args.position -ℤ pos c.args.steps *ℤ c.args.origin in
    let difference : to_z w64 (of_z w64 c.difference-d.result) ≡ u = held c.difference-d.result c.difference-d.type_inv
    ∙ c.difference-d.ensures
    ∙ (λ i. is-back c.ranges.position i -ℤ pos c.args.steps *ℤ is-back c.ranges.origin i) in
    let eastings : ellipsoidal c.args.kind ≡ false = search signed-tests in
    difference ∙ plain (ellipsoidal c.args.kind) u eastings
