-- `table_index_search::is_below` meets its contract: an unused entry is below no key.
-- Assumes nothing.
use native.Mathlib.Omega.{arith}
use mathlib.Core.Path.{sym, ap, ◌∙◌}
use lib.Dec.{ltb}
use Rattle.table_index_search.proofs.Entry.{key-used, unused-above}
use Rattle.table_index_search.proofs.is_below.Goals as goal

pub returns-then-byte_at-eq0 : goal.returns-then-byte_at-eq0
returns-then-byte_at-eq0 c = let a = c.args in
    sym (unused-above a.index.now a.j a.key (omega arith) (sym c.byte_at.ensures ∙ c.if-byte_at-eq0.true))

pub returns : goal.returns
returns c = let a = c.args in
    ap (λ k. ltb k a.key) (c.number_at.ensures ∙ sym (key-used a.index.now a.j (λ z. c.if-byte_at-eq0.false (c.byte_at.ensures ∙ z))))
