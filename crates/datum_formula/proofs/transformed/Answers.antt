-- `datum_formula::transformed` meets its contract.
-- Assumes nothing.
use mathlib.Core.Path.{◌≡◌, sym, ap, ◌∙◌, subst}
use Prim.Native.Nat.{◌-◌, ◌≤◌, ◌*◌, ◌^◌}
use native.Mathlib.Omega.{arith}
use borrow.Author.Rules.{rules}
use borrow.Author.Tests.{lt-ltb, le-ltb}
use lib.IntN.{nat_abs}
use Rattle.arith.proofs.Back.{held}
use Rattle.arith.proofs.Machine.{is-back}
use Rattle.datum_formula.specs.Formula.{Near}
use Rattle.datum_formula.proofs.Refusals.{none-beyond, read-back, refuses, answers}
use Rattle.datum_formula.proofs.transformed.Goals as goal

pub returns-then-beyond : goal.returns-then-beyond
returns-then-beyond c = let a = c.args in let f = c.ranges in
    refuses c.refused.ensures (λ e. omega arith) (rw (sym (read-back (10 ^ 11) a.x a.y a.z f.x f.y f.z c.beyond.ensures) ∙ c.if-beyond.true))

pub returns-then-beyond-2 : goal.returns-then-beyond-2
returns-then-beyond-2 c = let a = c.args in let v = a.v in let f = c.ranges in
    refuses c.refused-then-beyond-2.ensures (λ e. omega arith)
    (rw (
      sym (read-back (10 ^ 11) a.x a.y a.z f.x f.y f.z c.beyond.ensures) ∙ c.if-beyond.false,
      sym (read-back (2 ^ 22 - 1) v.dx v.dy v.dz (search rules) (search rules) (search rules) c.beyond-2.ensures) ∙ c.if-beyond-2.true,
    ))

pub returns-then-beyond-3 : goal.returns-then-beyond-3
returns-then-beyond-3 c = let a = c.args in let v = a.v in let f = c.ranges in
    refuses c.refused-then-beyond-3.ensures (λ e. omega arith)
    (rw (
      sym (read-back (10 ^ 11) a.x a.y a.z f.x f.y f.z c.beyond.ensures) ∙ c.if-beyond.false,
      sym (read-back (2 ^ 22 - 1) v.dx v.dy v.dz (search rules) (search rules) (search rules) c.beyond-2.ensures) ∙ c.if-beyond-2.false,
      sym (read-back (2 ^ 31 - 1) v.rx v.ry v.rz (search rules) (search rules) (search rules) c.beyond-3.ensures) ∙ c.if-beyond-3.true,
    ))

pub returns-then-unsigned_abs-gt16777215 : goal.returns-then-unsigned_abs-gt16777215
returns-then-unsigned_abs-gt16777215 c = let a = c.args in let v = a.v in let f = c.ranges in
    let scale : c.unsigned_abs.result ≡ nat_abs v.ds = c.unsigned_abs.ensures.value ∙ ap nat_abs (held v.ds (search rules)) in
    refuses c.refused-then-unsigned_abs-gt16777215.ensures (λ e. omega arith)
    (rw (
      sym (read-back (10 ^ 11) a.x a.y a.z f.x f.y f.z c.beyond.ensures) ∙ c.if-beyond.false,
      sym (read-back (2 ^ 22 - 1) v.dx v.dy v.dz (search rules) (search rules) (search rules) c.beyond-2.ensures) ∙ c.if-beyond-2.false,
      sym (read-back (2 ^ 31 - 1) v.rx v.ry v.rz (search rules) (search rules) (search rules) c.beyond-3.ensures) ∙ c.if-beyond-3.false,
      lt-ltb (2 ^ 24 - 1) (nat_abs v.ds) (omega (arith, scale, c.if-unsigned_abs-gt16777215.true)),
    ))

pub target_of-requires : goal.target_of-requires
target_of-requires c = let a = c.args in let v = a.v in let f = c.ranges in
    let scale : c.unsigned_abs.result ≡ nat_abs v.ds = c.unsigned_abs.ensures.value ∙ ap nat_abs (held v.ds (search rules)) in
    let l = none-beyond (10 ^ 11) a.x a.y a.z (sym (read-back (10 ^ 11) a.x a.y a.z f.x f.y f.z c.beyond.ensures) ∙ c.if-beyond.false) in
    let d = none-beyond (2 ^ 22 - 1) v.dx v.dy v.dz (sym (read-back (2 ^ 22 - 1) v.dx v.dy v.dz (search rules) (search rules) (search rules) c.beyond-2.ensures) ∙ c.if-beyond-2.false) in
    let r = none-beyond (2 ^ 31 - 1) v.rx v.ry v.rz (sym (read-back (2 ^ 31 - 1) v.rx v.ry v.rz (search rules) (search rules) (search rules) c.beyond-3.ensures) ∙ c.if-beyond-3.false) in
    let h : nat_abs v.ds ≤ 2 ^ 24 - 1 = omega (arith, scale, c.if-unsigned_abs-gt16777215.false) in (
      record { dx = omega arith; dy = omega arith; dz = omega arith; rx = omega arith; ry = omega arith; rz = omega arith; ds = omega arith },
      rw (is-back f.x) l.0,
      rw (is-back f.y) l.1,
      rw (is-back f.z) l.2,
    )

pub returns : goal.returns
returns c = let a = c.args in let v = a.v in let f = c.ranges in
    let scale : c.unsigned_abs.result ≡ nat_abs v.ds = c.unsigned_abs.ensures.value ∙ ap nat_abs (held v.ds (search rules)) in
    answers
    (subst (λ (q : Type 0). (c.target_of.result.refusal ≡ 0) × q)
    (λ i. Near (521 * 10 ^ 32) v (is-back f.x i) (is-back f.y i) (is-back f.z i) c.target_of.result) c.target_of.ensures)
    (rw (
      sym (read-back (10 ^ 11) a.x a.y a.z f.x f.y f.z c.beyond.ensures) ∙ c.if-beyond.false,
      sym (read-back (2 ^ 22 - 1) v.dx v.dy v.dz (search rules) (search rules) (search rules) c.beyond-2.ensures) ∙ c.if-beyond-2.false,
      sym (read-back (2 ^ 31 - 1) v.rx v.ry v.rz (search rules) (search rules) (search rules) c.beyond-3.ensures) ∙ c.if-beyond-3.false,
      le-ltb (2 ^ 24 - 1) (nat_abs v.ds) (omega (arith, scale, c.if-unsigned_abs-gt16777215.false)),
    ))
