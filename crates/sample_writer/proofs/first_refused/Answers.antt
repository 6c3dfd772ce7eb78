-- `sample_writer::first_refused` meets its contract: none of the points passed is refused.
-- Assumes nothing.
use Prim.Native.Nat.{ℕ}
use mathlib.Core.Path.{◌≡◌, refl, sym, ◌∙◌}
use native.Mathlib.Omega.{arith}
use lib.IntN.{ℤ, pos}
use lib.ListN.{get_or}
use Rattle.arith.proofs.Back.{held}
use Rattle.grid_component.specs.Component.{counted}
use Rattle.grid_component.specs.Inner.{counted_by}
use Rattle.grid_component.proofs.Counts.{counted_is}
use Rattle.sample_writer.specs.Refusals.{answer_at}
use Rattle.sample_writer.proofs.Asked.{point, round-refused, round-answered, end_refused}
use Rattle.sample_writer.proofs.first_refused.Goals as goal

pub loop-i-init : goal.loop-i-init
loop-i-init c = (omega arith, (omega arith, (omega arith, refl)))

pub returns-then-refusal-ne0 : goal.returns-then-refusal-ne0
unfolding answer_at
returns-then-refusal-ne0 c = let answer : c.count_at-refusal.result ≡ counted (answer_at c.args.message.now (point c.args.components.now c.args.north.now c.args.east.now c.loop-i.i)) = let z : ℤ = get_or c.args.north.now c.loop-i.i (pos 0) in
    let y : ℤ = get_or c.args.east.now c.loop-i.i (pos 0) in
    let k : ℕ = get_or c.args.components.now c.loop-i.i 0 in
    c.count_at-refusal.ensures
    ∙ (λ j. counted_by c.args.message.now (c.requires.0 j) k (held z (omega arith) j) (held y (omega arith) j))
    ∙ counted_is c.args.message.now k z y in
    let v = c.loop-i.invariant.1 in
    sym (v.1.1 ∙ round-refused _ _ _ _ c.loop-i-test.true v.0 v.1.0 _ _ answer c.if-refusal-ne0.true)

pub loop-i-preserved : goal.loop-i-preserved
unfolding answer_at
loop-i-preserved c = let answer : c.count_at-refusal.result ≡ counted (answer_at c.args.message.now (point c.args.components.now c.args.north.now c.args.east.now c.loop-i.i)) = let z : ℤ = get_or c.args.north.now c.loop-i.i (pos 0) in
    let y : ℤ = get_or c.args.east.now c.loop-i.i (pos 0) in
    let k : ℕ = get_or c.args.components.now c.loop-i.i 0 in
    c.count_at-refusal.ensures
    ∙ (λ j. counted_by c.args.message.now (c.requires.0 j) k (held z (omega arith) j) (held y (omega arith) j))
    ∙ counted_is c.args.message.now k z y in
    let v = c.loop-i.invariant.1 in
    (omega arith, (v.0, (v.1.0, v.1.1 ∙ round-answered _ _ _ _ c.loop-i-test.true v.0 v.1.0 _ _ answer c.if-refusal-ne0.false)))

pub returns : goal.returns
returns c = sym (c.loop-i.invariant.1.1.1 ∙ end_refused _ _ _ _ _ c.loop-i-test.false)
