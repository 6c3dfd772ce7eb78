-- `table_index_search::agree_at` meets its contract: three tests, each asked where those before it hold.
-- Assumes nothing.
use mathlib.Core.Path.{sym, ◌∙◌}
use Rattle.table_index_search.proofs.Tests.{agree-order, agree-true, agree-rest}
use Rattle.table_index_search.proofs.agree_at.Goals as goal

pub returns-then-not-in_order : goal.returns-then-not-in_order
returns-then-not-in_order c = let a = c.args in
    sym (agree-order a.marks.now a.index.now a.i (sym c.in_order.ensures ∙ c.if-not-in_order.true))

pub returns-then-not-is_true : goal.returns-then-not-is_true
returns-then-not-is_true c = let a = c.args in
    sym (agree-true a.marks.now a.index.now a.i (sym c.in_order.ensures ∙ c.if-not-in_order.false) (sym c.is_true.ensures ∙ c.if-not-is_true.true))

pub returns : goal.returns
returns c = let a = c.args in
    c.is_listed.ensures
    ∙ sym (agree-rest a.marks.now a.index.now a.i (sym c.in_order.ensures ∙ c.if-not-in_order.false) (sym c.is_true.ensures ∙ c.if-not-is_true.false))
