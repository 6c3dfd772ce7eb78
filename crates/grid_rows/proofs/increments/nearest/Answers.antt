-- `grid_rows::increments::nearest` meets its contract: a negative sum is rounded as its opposite.
-- Assumes nothing.
use mathlib.Core.Path.{◌≡◌, ◌∙◌, ap}
use Prim.Native.Nat.{ℕ, ◌-◌, ◌≤◌, ◌<◌}
use native.Mathlib.Omega.{arith}
use borrow.Author.Rules.{rules}
use lib.IntN.{ℤ, nat_abs}
use Rattle.arith.proofs.Back.{held}
use Rattle.arith.proofs.Machine.{Num, arg, lit, add, sub, result, passed, fits, less, not-less}
use Rattle.grid_rows.specs.Private.{half_up}
use Rattle.grid_rows.proofs.Halves.{rounds-above, rounds-below, half-most}
use Rattle.grid_rows.proofs.increments.nearest.Goals as goal

pub rounded-requires : goal.rounded-requires
rounded-requires c = let whole : Num = arg c.args.whole 10000000000 c.requires.1 tt in
    let more : Num = add whole (lit 1 tt) tt in
    let opposite : Num = sub (lit 0 tt) more tt in
    (omega arith, passed opposite (λ (z : ℤ). nat_abs z ≤ 10000000001) opposite.le)

pub returns-then-whole-lt0 : goal.returns-then-whole-lt0
returns-then-whole-lt0 c = let whole : Num = arg c.args.whole 10000000000 c.requires.1 tt in
    let more : Num = add whole (lit 1 tt) tt in
    let opposite : Num = sub (lit 0 tt) more tt in
    let back : Num = sub (lit 0 tt)
    (result c.rounded.result 10000000002 (c.rounded.ensures ∙ ap (λ (z : ℤ). half_up c.args.area z (c.args.area - c.args.rest)) opposite.held)
    (half-most c.args.area opposite.z (c.args.area - c.args.rest) opposite.le) tt) tt in
    back.held ∙ rounds-below c.args.area c.args.whole c.args.rest c.requires.0 (less whole (lit 0 tt) c.if-whole-lt0.true)

pub rounded-requires-2 : goal.rounded-requires-2
rounded-requires-2 c = let whole : Num = arg c.args.whole 10000000000 c.requires.1 tt in
    (omega (arith, c.requires.0), passed whole (λ (z : ℤ). nat_abs z ≤ 10000000001) (omega (arith, c.requires.1)))

pub returns : goal.returns
returns c = let whole : Num = arg c.args.whole 10000000000 c.requires.1 tt in
    held c.rounded-2.result c.rounded-2.type_inv ∙ c.rounded-2.ensures ∙ ap (λ (z : ℤ). half_up c.args.area z c.args.rest) whole.held
    ∙ rounds-above c.args.area c.args.whole c.args.rest c.requires.0 (not-less whole (lit 0 tt) c.if-whole-lt0.false)

pub overflow_add-whole : goal.overflow_add-whole
overflow_add-whole c =
    let whole : Num = arg c.args.whole 10000000000 c.requires.1 tt in
    let more : Num = add whole (lit 1 tt) tt in
    fits more

pub overflow_sub-whole : goal.overflow_sub-whole
overflow_sub-whole c =
    let whole : Num = arg c.args.whole 10000000000 c.requires.1 tt in
    let more : Num = add whole (lit 1 tt) tt in
    let opposite : Num = sub (lit 0 tt) more tt in
    fits opposite

pub overflow_sub-result : goal.overflow_sub-result
overflow_sub-result c =
    let whole : Num = arg c.args.whole 10000000000 c.requires.1 tt in
    let more : Num = add whole (lit 1 tt) tt in
    let opposite : Num = sub (lit 0 tt) more tt in
    let back : Num = sub (lit 0 tt)
    (result c.rounded.result 10000000002 (c.rounded.ensures ∙ ap (λ (z : ℤ). half_up c.args.area z (c.args.area - c.args.rest)) opposite.held)
    (half-most c.args.area opposite.z (c.args.area - c.args.rest) opposite.le) tt) tt in
    fits back
