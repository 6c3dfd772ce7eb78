-- `report_update::as_read` meets its contract.
-- Assumes nothing.
use mathlib.Core.Path.{sym, ◌∙◌}
use native.Mathlib.Omega.{arith}
use lib.IntN.{pos}
use borrow.Author.Tests.{eq-eqb, ne_eqb}
use Rattle.report_update.specs.Update.{as_read}
use Rattle.report_update.proofs.Laws.{yes, no}
use Rattle.arith.proofs.Back.{held}
use Rattle.report_update.proofs.as_read.Goals as goal

pub returns-then-t-eq0 : goal.returns-then-t-eq0
unfolding as_read
returns-then-t-eq0 c = let t = c.args.t in
    (λ i. record {
      answered = 0;
      refused = t.refused;
      smallest = pos 0;
      greatest = pos 0;
      smallest_place = 0;
      greatest_place = 0;
      sum = held t.sum (omega arith) i;
    })
    ∙ sym (yes _ _ (eq-eqb _ _ c.if-t-eq0.true))

pub returns : goal.returns
unfolding as_read
returns c = sym (no _ _ (ne_eqb _ _ c.if-t-eq0.false))
