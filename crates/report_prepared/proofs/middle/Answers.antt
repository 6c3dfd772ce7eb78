-- `report_prepared::middle` meets its contract: the code's tests are the definition's, and no product overflows.
-- Assumes nothing.
use mathlib.Core.Path.{◌≡◌, ap, ◌∙◌, subst}
use mathlib.Core.Bool.{Bool, true, false, cond}
use Prim.Native.Nat.{ℕ, ◌≤◌}
use borrow.Author.Tests.{lt-ltb, le-ltb}
use lib.IntN.{ℤ, pos, nat_abs, ◌*ℤ◌}
use Rattle.arith.proofs.Machine.{Num, arg, lit, mul, fits, is-back}
use Rattle.arith.proofs.Order.{signed-tests}
use Rattle.grid_refusals.specs.Refusals.{ellipsoidal}
use Rattle.report_prepared.specs.Inner.{middle_of}
use Rattle.report_prepared.proofs.middle.Goals as goal

pub returns-then-unsigned_abs-gt67108864 : goal.returns-then-unsigned_abs-gt67108864
unfolding middle_of
returns-then-unsigned_abs-gt67108864 c = let magnitude : c.unsigned_abs.result ≡ nat_abs c.args.raw = c.unsigned_abs.ensures.value ∙ ap nat_abs (is-back c.ranges.raw) in
    rw (lt-ltb 67108864 (nat_abs c.args.raw) (rw magnitude at c.if-unsigned_abs-gt67108864.true))

pub returns-then-number-eq1023 : goal.returns-then-number-eq1023
unfolding middle_of
returns-then-number-eq1023 c = let magnitude : c.unsigned_abs.result ≡ nat_abs c.args.raw = c.unsigned_abs.ensures.value ∙ ap nat_abs (is-back c.ranges.raw) in
    let raw : ℤ = c.args.raw in
    let small : nat_abs raw ≤ 67108864 = subst (λ (n : ℕ). n ≤ 67108864) magnitude c.if-unsigned_abs-gt67108864.false in
    let seconds : Num = mul (lit 5000 tt) (arg raw 67108864 small tt) tt in
    let is : (b : Bool) → ellipsoidal c.args.number ≡ b → pos (cond b 5000 10000) *ℤ raw ≡ middle_of c.args.number raw = λ b e. rw (le-ltb 67108864 (nat_abs raw) small, e) in
    seconds.held ∙ is true (search signed-tests)

pub returns : goal.returns
unfolding middle_of
returns c = let magnitude : c.unsigned_abs.result ≡ nat_abs c.args.raw = c.unsigned_abs.ensures.value ∙ ap nat_abs (is-back c.ranges.raw) in
    let raw : ℤ = c.args.raw in
    let small : nat_abs raw ≤ 67108864 = subst (λ (n : ℕ). n ≤ 67108864) magnitude c.if-unsigned_abs-gt67108864.false in
    let metres : Num = mul (lit 10000 tt) (arg raw 67108864 small tt) tt in
    let is : (b : Bool) → ellipsoidal c.args.number ≡ b → pos (cond b 5000 10000) *ℤ raw ≡ middle_of c.args.number raw = λ b e. rw (le-ltb 67108864 (nat_abs raw) small, e) in
    metres.held ∙ is false (search signed-tests)

pub overflow_mul-result : goal.overflow_mul-result
overflow_mul-result c =
    let magnitude : c.unsigned_abs.result ≡ nat_abs c.args.raw = c.unsigned_abs.ensures.value ∙ ap nat_abs (is-back c.ranges.raw) in
    let raw : ℤ = c.args.raw in
    let small : nat_abs raw ≤ 67108864 = subst (λ (n : ℕ). n ≤ 67108864) magnitude c.if-unsigned_abs-gt67108864.false in
    let seconds : Num = mul (lit 5000 tt) (arg raw 67108864 small tt) tt in
    fits seconds

pub overflow_mul-result-2 : goal.overflow_mul-result-2
overflow_mul-result-2 c =
    let magnitude : c.unsigned_abs.result ≡ nat_abs c.args.raw = c.unsigned_abs.ensures.value ∙ ap nat_abs (is-back c.ranges.raw) in
    let raw : ℤ = c.args.raw in
    let small : nat_abs raw ≤ 67108864 = subst (λ (n : ℕ). n ≤ 67108864) magnitude c.if-unsigned_abs-gt67108864.false in
    let metres : Num = mul (lit 10000 tt) (arg raw 67108864 small tt) tt in
    fits metres
