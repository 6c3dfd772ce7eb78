-- `table_index_search::is_entry` meets its contract: key and slot.
-- Assumes nothing.
use mathlib.Core.Path.{sym, ap, ◌∙◌}
use lib.Dec.{eqb}
use Rattle.table_index_search.proofs.Tests.{entry_other, entry-slot}
use Rattle.table_index_search.proofs.is_entry.Goals as goal

pub returns-then-not-is_key : goal.returns-then-not-is_key
returns-then-not-is_key c = let a = c.args in
    sym (entry_other a.index.now a.j a.key a.slot (sym c.is_key.ensures ∙ c.if-not-is_key.true))

pub returns : goal.returns
returns c = let a = c.args in
    ap (λ k. eqb k a.slot) c.byte_at.ensures ∙ sym (entry-slot a.index.now a.j a.key a.slot (sym c.is_key.ensures ∙ c.if-not-is_key.false))
