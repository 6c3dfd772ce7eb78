-- `grid_row_refusals::places_in` meets its contract.
-- Assumes nothing.
use native.Mathlib.Nat.{min-eq_left, min-eq_right}
use native.Mathlib.Omega.{arith}
use borrow.Author.Rules.{rules}
use borrow.Author.Tests.{lt-ltb, le-ltb, eq-eqb, ne_eqb}
use Rattle.grid_row_refusals.specs.Inner.{places_in}
use Rattle.grid_row_refusals.proofs.Reaches.{counted}
use Rattle.grid_row_refusals.proofs.places_in.Goals as goal

pub returns-then-w-x : goal.returns-then-w-x
unfolding places_in
returns-then-w-x c = let a = c.args in let p = counted a.left a.w a.x a.step (rw (lt-ltb a.w a.x c.if-w-x.true)) in record { number = p.0; greatest = p.1 }

pub returns-then-step-eq0 : goal.returns-then-step-eq0
unfolding places_in
returns-then-step-eq0 c = let a = c.args in let p = counted a.left a.w a.x a.step (rw (le-ltb a.w a.x c.if-w-x.false, eq-eqb a.step 0 c.if-step-eq0.true)) in record { number = p.0; greatest = p.1 }

pub returns-then-more-left : goal.returns-then-more-left
unfolding places_in
returns-then-more-left c = let a = c.args in let p = counted a.left a.w a.x a.step
    (rw (le-ltb a.w a.x c.if-w-x.false, ne_eqb a.step 0 c.if-step-eq0.false) (omega (arith, c.if-more-left.true))) in record { number = p.0; greatest = p.1 }

pub returns : goal.returns
unfolding places_in
returns c = let a = c.args in let p = counted a.left a.w a.x a.step
    (rw (le-ltb a.w a.x c.if-w-x.false, ne_eqb a.step 0 c.if-step-eq0.false) (omega (arith, c.if-more-left.false))) in record { number = p.0; greatest = p.1 }
