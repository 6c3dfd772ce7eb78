-- `table_index_search::in_order` meets its contract: each return is a case of the order.
-- Assumes nothing.
use mathlib.Core.Path.{sym, ◌∙◌}
use Rattle.table_index_search.proofs.Tests.{order-unused, order-first, order-rest}
use Rattle.table_index_search.proofs.in_order.Goals as goal

pub returns-then-byte_at-eq0 : goal.returns-then-byte_at-eq0
returns-then-byte_at-eq0 c = let a = c.args in sym (order-unused a.index.now a.j (sym c.byte_at.ensures ∙ c.if-byte_at-eq0.true))

pub returns-then-j-eq0 : goal.returns-then-j-eq0
returns-then-j-eq0 c = let a = c.args in sym (order-first a.index.now a.j c.if-j-eq0.true)

pub returns : goal.returns
returns c = let a = c.args in
    order-rest a.index.now a.j (λ z. c.if-byte_at-eq0.false (c.byte_at.ensures ∙ z)) c.if-j-eq0.false c.number_at.ensures c.is_below.ensures
