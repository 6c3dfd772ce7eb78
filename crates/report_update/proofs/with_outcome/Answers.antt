-- `report_update::with_outcome` meets its contract: the code's tests are the definition's.
-- Assumes nothing.
use mathlib.Core.Path.{ap, ◌∙◌}
use mathlib.Core.Bool.{cond}
use Prim.Native.Nat.{◌+◌}
use borrow.Author.Tests.{lt-ltb, le-ltb, eq-eqb, ne_eqb}
use lib.IntN.{ℤ}
use Rattle.arith.proofs.Machine.{is-back}
use Rattle.report_update.specs.Inner.{countable, grown_by}
use Rattle.report_update.specs.Update.{with_answered}
use Rattle.report_update.proofs.with_outcome.Goals as goal

pub returns-then-before-ge10000 : goal.returns-then-before-ge10000
unfolding grown_by
returns-then-before-ge10000 c = rw (le-ltb c.args.before 10000 c.if-before-ge10000.true)

pub returns-then-refusal-eq0 : goal.returns-then-refusal-eq0
unfolding grown_by
returns-then-refusal-eq0 c = let a = c.args in
    c.with_count.ensures
    ∙ ap (λ (z : ℤ). cond (countable a.t z) (with_answered a.t z (a.before + 1)) a.t) (is-back c.ranges.count)
    ∙ rw (lt-ltb a.before 10000 c.if-before-ge10000.false, eq-eqb a.refusal 0 c.if-refusal-eq0.true)

pub returns : goal.returns
unfolding grown_by
returns c = let a = c.args in
    c.with_refusal.ensures ∙ rw (lt-ltb a.before 10000 c.if-before-ge10000.false, ne_eqb a.refusal 0 c.if-refusal-eq0.false)
