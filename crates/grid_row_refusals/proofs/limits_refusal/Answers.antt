-- `grid_row_refusals::limits_refusal` meets its contract.
-- Assumes nothing.
use mathlib.Core.Path.{◌≡◌, sym, ap, ◌∙◌, subst}
use mathlib.Core.Bool.{Bool, true, false, cond}
use native.Mathlib.Omega.{arith}
use borrow.Author.Tests.{lt-ltb, le-ltb, eq-eqb, ne_eqb}
use lib.IntN.{ℤ, pos}
use lib.Signed.{lt_z, ◌≤ℤ◌}
use mir.Syntax.{w64}
use mir.Val.{to_z, of_z}
use Rattle.arith.proofs.Int.{not-less}
use Rattle.arith.proofs.Machine.{any, lit, test, is-back}
use Rattle.grid_row_refusals.specs.ShiftRow.{any_beyond, misplaced}
use Rattle.grid_row_refusals.proofs.limits_refusal.Goals as goal

pub returns-then-component-gt2 : goal.returns-then-component-gt2
returns-then-component-gt2 c = rw (lt-ltb 2 c.args.component c.if-component-gt2.true)

pub returns-then-count-eq0 : goal.returns-then-count-eq0
unfolding misplaced
returns-then-count-eq0 c = let a = c.args in rw (le-ltb 2 a.component c.if-component-gt2.false, eq-eqb a.count 0 c.if-count-eq0.true)

pub returns-then-count-gt4096 : goal.returns-then-count-gt4096
unfolding misplaced
returns-then-count-gt4096 c = let a = c.args in
    rw (le-ltb 2 a.component c.if-component-gt2.false, ne_eqb a.count 0 c.if-count-eq0.false, lt-ltb 4096 a.count c.if-count-gt4096.true)

pub returns-then-step-lt0 : goal.returns-then-step-lt0
unfolding misplaced
returns-then-step-lt0 c = let a = c.args in
    let e : lt_z a.step (pos 0) ≡ true = test (any a.step c.ranges.step) (lit 0 tt) c.if-step-lt0.true in
    rw (le-ltb 2 a.component c.if-component-gt2.false, ne_eqb a.count 0 c.if-count-eq0.false, le-ltb 4096 a.count c.if-count-gt4096.false, e)

pub ends_refusal-requires : goal.ends_refusal-requires
ends_refusal-requires c = let up : lt_z c.args.step (pos 0) ≡ false = test (any c.args.step c.ranges.step) (lit 0 tt) c.if-step-lt0.false in (
  c.if-component-gt2.false,
  omega (arith, c.if-count-eq0.false),
  c.if-count-gt4096.false,
  subst (λ (z : ℤ). pos 0 ≤ℤ z) (sym (is-back c.ranges.step)) (not-less up),
)

pub returns : goal.returns
unfolding misplaced
returns c = let up : lt_z c.args.step (pos 0) ≡ false = test (any c.args.step c.ranges.step) (lit 0 tt) c.if-step-lt0.false in
    let a = c.args in
    let f = c.ranges in
    rw (le-ltb 2 a.component c.if-component-gt2.false, ne_eqb a.count 0 c.if-count-eq0.false, le-ltb 4096 a.count c.if-count-gt4096.false, up)
    (c.ends_refusal.ensures
    ∙ (λ i. cond (any_beyond (is-back f.number i) (is-back f.north i) (is-back f.east i) (is-back f.step i) a.count) 9 0))
