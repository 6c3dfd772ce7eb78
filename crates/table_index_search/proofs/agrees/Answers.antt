-- `table_index_search::agrees` meets its contract: both sizes, then every place.
-- Assumes nothing.
use mathlib.Core.Path.{sym, ap, ◌∙◌}
use lib.ListN.{length}
use Rattle.table_index_search.specs.Agree.{agree}
use Rattle.table_index_search.proofs.Tests.{agree-marks, agree-size, agree-all}
use Rattle.table_index_search.proofs.agrees.Goals as goal

pub returns-in_default : goal.returns-in_default
returns-in_default c = sym (agree-marks _ _ c.in_default.ensures.1)

pub returns-in_default-try_from : goal.returns-in_default-try_from
returns-in_default-try_from c = sym (agree-size _ _ c.in-Ok.ensures.1.long c.in_default-try_from.ensures.1)

pub returns : goal.returns
returns c = let m = c.in-Ok.ensures.1 in
    let x = c.in-Ok-try_from.ensures.1 in
    c.all_agree.ensures ∙ sym (agree-all _ _ (ap length m.same ∙ m.long) (ap length x.same ∙ x.long)) ∙ (λ i. agree (m.same i) (x.same i))
