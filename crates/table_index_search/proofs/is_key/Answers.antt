-- `table_index_search::is_key` meets its contract: an unused entry has no key.
-- Assumes nothing.
use native.Mathlib.Omega.{arith}
use mathlib.Core.Path.{sym, ap, ◌∙◌}
use lib.Dec.{eqb}
use Rattle.table_index_search.proofs.Entry.{key-used, unused-not}
use Rattle.table_index_search.proofs.is_key.Goals as goal

pub returns-then-byte_at-eq0 : goal.returns-then-byte_at-eq0
returns-then-byte_at-eq0 c = let a = c.args in
    sym (unused-not a.index.now a.j a.key (omega arith) (sym c.byte_at.ensures ∙ c.if-byte_at-eq0.true))

pub returns : goal.returns
returns c = let a = c.args in
    ap (λ k. eqb k a.key) (c.number_at.ensures ∙ sym (key-used a.index.now a.j (λ z. c.if-byte_at-eq0.false (c.byte_at.ensures ∙ z))))
