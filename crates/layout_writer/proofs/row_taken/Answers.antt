-- `layout_writer::row_taken` meets its contract.
-- Assumes nothing.
use mathlib.Core.Path.{◌≡◌, refl, sym, ◌∙◌}
use mathlib.Core.Bool.{true, false}
use native.Mathlib.Omega.{arith}
use lib.IntN.{pos}
use lib.ListN.{get_or}
use Rattle.field.proofs.Sign.{bits-z}
use Rattle.layout.specs.Layout.{place_takes}
use Rattle.layout_writer.proofs.Loop.{uneven, head-row, row-left}
use Rattle.layout_writer.proofs.row_taken.Goals as goal

pub returns-then-layout-values : goal.returns-then-layout-values
returns-then-layout-values c = let a = c.args in sym (uneven a.layout.now a.values.now a.present.now (λ k. c.if-layout-values.true k.0))

pub returns-then-layout-present : goal.returns-then-layout-present
returns-then-layout-present c = let a = c.args in sym (uneven a.layout.now a.values.now a.present.now (λ k. c.if-layout-present.true k.1))

pub loop-i-preserved : goal.loop-i-preserved
loop-i-preserved c = let a = c.args in
    let l = c.loop-i in
    let z = bits-z (get_or a.values.now l.i (pos 0)) (record { sfits = omega arith }) in
    let e = head-row a.layout.now a.values.now a.present.now l.i (omega arith) (omega arith) (omega arith) in
    let t : place_takes (get_or a.layout.now l.i 0) (get_or a.values.now l.i (pos 0)) (get_or a.present.now l.i 0) ≡ true =
    rw z at (sym c.takes_place.ensures ∙ c.if-not-takes_place.false) in
    (omega arith, (l.invariant.1.0, (l.invariant.1.1.0, sym (rw t at e) ∙ l.invariant.1.1.1)))

pub returns-then-not-takes_place : goal.returns-then-not-takes_place
returns-then-not-takes_place c = let a = c.args in
    let l = c.loop-i in
    let z = bits-z (get_or a.values.now l.i (pos 0)) (record { sfits = omega arith }) in
    let e = head-row a.layout.now a.values.now a.present.now l.i (omega arith) (omega arith) (omega arith) in
    let t : place_takes (get_or a.layout.now l.i 0) (get_or a.values.now l.i (pos 0)) (get_or a.present.now l.i 0) ≡ false =
    rw z at (sym c.takes_place.ensures ∙ c.if-not-takes_place.true) in
    sym (rw t at e) ∙ l.invariant.1.1.1

pub returns : goal.returns
returns c = let a = c.args in
    let l = c.loop-i in
    sym (row-left a.layout.now a.values.now a.present.now l.i (omega arith) (omega arith) (omega arith)) ∙ l.invariant.1.1.1

pub loop-i-init : goal.loop-i-init
loop-i-init c = (omega arith, (c.if-layout-values.false, (c.if-layout-present.false, refl)))
