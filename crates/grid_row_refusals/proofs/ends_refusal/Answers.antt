-- `grid_row_refusals::ends_refusal` meets its contract.
-- Assumes nothing.
use mathlib.Core.Path.{◌≡◌, sym, ap, ◌∙◌, subst}
use mathlib.Core.Bool.{Bool, false, cond}
use Prim.Native.Nat.{ℕ, ◌-◌, ◌≤◌}
use native.Mathlib.Omega.{arith}
use borrow.Author.Rules.{rules}
use lib.Dec.{ltb}
use lib.IntN.{ℤ, nat_abs, pos, ◌+ℤ◌, ◌*ℤ◌}
use Rattle.arith.proofs.Int.{abs-most}
use Rattle.grid_refusals.specs.Refusals.{beyond}
use Rattle.arith.proofs.Machine.{Num, any, arg, cast, lit, mul, add, fits, is-back, less, not-less}
use Rattle.grid_row_refusals.specs.ShiftRow.{any_beyond}
use Rattle.grid_row_refusals.proofs.Ends.{near-most, first-beyond, one-fine, step-beyond, last-tells, nine, yes-nine, no_nine}
use Rattle.grid_row_refusals.proofs.ends_refusal.Goals as goal

pub returns-then-outcome_number-ne0 : goal.returns-then-outcome_number-ne0
returns-then-outcome_number-ne0 c = let first : Bool = beyond c.args.number c.args.north c.args.east in
    let known : c.outcome_number.result ≡ cond first 9 0 = nine first c.requires.0
    ((c.outcome_number.ensures ∙ c.position_refusal.ensures)
    ∙ (λ i. cond (ltb 2 c.args.component) 8 (cond (beyond (is-back c.ranges.number i) (is-back c.ranges.north i) (is-back c.ranges.east i)) 9 0))) in
    let a = c.args in
    let p = c.requires in
    let e = first-beyond a.number a.north a.east a.step a.count p.3 p.1 (yes-nine first known c.if-outcome_number-ne0.true) in
    rw e

pub returns-then-count-eq1 : goal.returns-then-count-eq1
returns-then-count-eq1 c = let first : Bool = beyond c.args.number c.args.north c.args.east in
    let known : c.outcome_number.result ≡ cond first 9 0 = nine first c.requires.0
    ((c.outcome_number.ensures ∙ c.position_refusal.ensures)
    ∙ (λ i. cond (ltb 2 c.args.component) 8 (cond (beyond (is-back c.ranges.number i) (is-back c.ranges.north i) (is-back c.ranges.east i)) 9 0))) in
    let a = c.args in
    let e = one-fine a.number a.north a.east a.step a.count c.requires.3 c.if-count-eq1.true (no_nine first known c.if-outcome_number-ne0.false) in
    rw e

pub returns-then-step-gt2000000000000 : goal.returns-then-step-gt2000000000000
returns-then-step-gt2000000000000 c = let first : Bool = beyond c.args.number c.args.north c.args.east in
    let known : c.outcome_number.result ≡ cond first 9 0 = nine first c.requires.0
    ((c.outcome_number.ensures ∙ c.position_refusal.ensures)
    ∙ (λ i. cond (ltb 2 c.args.component) 8 (cond (beyond (is-back c.ranges.number i) (is-back c.ranges.north i) (is-back c.ranges.east i)) 9 0))) in
    let fine : first ≡ false = no_nine first known c.if-outcome_number-ne0.false in
    let a = c.args in
    let e =
    step-beyond a.number a.north a.east a.step a.count (omega (arith, c.if-count-eq1.false, c.requires.1)) fine
    (less (lit 2000000000000 tt) (any a.step c.ranges.step) c.if-step-gt2000000000000.true) in
    rw e

pub returns : goal.returns
returns c = let first : Bool = beyond c.args.number c.args.north c.args.east in
    let known : c.outcome_number.result ≡ cond first 9 0 = nine first c.requires.0
    ((c.outcome_number.ensures ∙ c.position_refusal.ensures)
    ∙ (λ i. cond (ltb 2 c.args.component) 8 (cond (beyond (is-back c.ranges.number i) (is-back c.ranges.north i) (is-back c.ranges.east i)) 9 0))) in
    let fine : first ≡ false = no_nine first known c.if-outcome_number-ne0.false in
    let small : nat_abs c.args.step ≤ 2000000000000 = abs-most c.requires.3 (not-less (lit 2000000000000 tt) (any c.args.step c.ranges.step) c.if-step-gt2000000000000.false) in
    let way : Num = mul (cast (c.args.count - 1) 4095 (omega (arith, c.requires.2)) tt) (arg c.args.step 2000000000000 small tt) tt in
    let last : Num = add (arg c.args.east 1000000000000 (near-most c.args.number c.args.north c.args.east fine) tt) way tt in
    let a = c.args in
    nine (beyond a.number a.north last.z) c.requires.0
    ((c.outcome_number-2.ensures ∙ c.position_refusal-2.ensures)
    ∙ (λ i. cond (ltb 2 a.component) 8 (cond (beyond (is-back c.ranges.number i) (is-back c.ranges.north i) (last.held i)) 9 0)))
    ∙ ap (λ (t : Bool). cond t 9 0) (sym (last-tells a.number a.north a.east a.step a.count c.requires.3 c.requires.1 fine))

pub overflow_mul-last : goal.overflow_mul-last
overflow_mul-last c =
    let small : nat_abs c.args.step ≤ 2000000000000 = abs-most c.requires.3 (not-less (lit 2000000000000 tt) (any c.args.step c.ranges.step) c.if-step-gt2000000000000.false) in
    let way : Num = mul (cast (c.args.count - 1) 4095 (omega (arith, c.requires.2)) tt) (arg c.args.step 2000000000000 small tt) tt in
    fits way

pub overflow_add-last : goal.overflow_add-last
overflow_add-last c =
    let first : Bool = beyond c.args.number c.args.north c.args.east in
    let known : c.outcome_number.result ≡ cond first 9 0 = nine first c.requires.0
    ((c.outcome_number.ensures ∙ c.position_refusal.ensures)
    ∙ (λ i. cond (ltb 2 c.args.component) 8 (cond (beyond (is-back c.ranges.number i) (is-back c.ranges.north i) (is-back c.ranges.east i)) 9 0))) in
    let fine : first ≡ false = no_nine first known c.if-outcome_number-ne0.false in
    let small : nat_abs c.args.step ≤ 2000000000000 = abs-most c.requires.3 (not-less (lit 2000000000000 tt) (any c.args.step c.ranges.step) c.if-step-gt2000000000000.false) in
    let way : Num = mul (cast (c.args.count - 1) 4095 (omega (arith, c.requires.2)) tt) (arg c.args.step 2000000000000 small tt) tt in
    let last : Num = add (arg c.args.east 1000000000000 (near-most c.args.number c.args.north c.args.east fine) tt) way tt in
    fits last
