-- `sample_checks::first_bad` meets its contract: the points passed are right.
-- Assumes nothing.
use mathlib.Core.Path.{◌≡◌, refl, sym, ap, ◌∙◌}
use native.Mathlib.Omega.{arith}
use Rattle.sample_files.specs.Inner.{point_at}
use Rattle.sample_checks.specs.Check.{right}
use Rattle.sample_checks.proofs.Checks.{round-bad, round-right, none-bad}
use Rattle.sample_checks.proofs.first_bad.Goals as goal

pub loop-i-init : goal.loop-i-init
loop-i-init c = (c.point_count-n.ensures, (omega arith, refl))

pub right_point-requires : goal.right_point-requires
right_point-requires c = c.requires

pub returns-then-not-right_point : goal.returns-then-not-right_point
returns-then-not-right_point c = let tested : c.right_point.result ≡ right c.args.message.now (point_at c.args.file.now c.loop-i.i) = c.right_point.ensures ∙ ap (right c.args.message.now) c.point_at.ensures in
    round-bad c.args.message.now c.args.file.now c.loop-i.i (omega (arith, c.loop-i-test.true, c.loop-i.invariant.0))
    (sym tested ∙ c.if-not-right_point.true) c.loop-i.invariant.1.1

pub loop-i-preserved : goal.loop-i-preserved
loop-i-preserved c = let tested : c.right_point.result ≡ right c.args.message.now (point_at c.args.file.now c.loop-i.i) = c.right_point.ensures ∙ ap (right c.args.message.now) c.point_at.ensures in
    let v = c.loop-i.invariant in
    (v.0, (omega arith, v.1.1 ∙ round-right c.args.message.now c.args.file.now c.loop-i.i (omega (arith, c.loop-i-test.true, v.0)) (sym tested ∙ c.if-not-right_point.false)))

pub returns : goal.returns
returns c = let v = c.loop-i.invariant in
    none-bad _ _ c.loop-i.i (omega (arith, c.loop-i-test.false, v.0)) v.1.1
