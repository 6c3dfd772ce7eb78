-- `table_index_search::is_true` meets its contract: each return is a case of the test.
-- Assumes nothing.
use native.Mathlib.Omega.{arith}
use mathlib.Core.Path.{sym, ap, ◌∙◌}
use lib.Dec.{eqb}
use lib.ListN.{get_or}
use Rattle.table_index_search.specs.Index.{key_at}
use Rattle.table_index_search.proofs.Tests.{true-unused, true-used, true-out}
use Rattle.table_index_search.proofs.is_true.Goals as goal

pub returns-then-byte_at-eq0 : goal.returns-then-byte_at-eq0
returns-then-byte_at-eq0 c = let a = c.args in
    c.is_blank.ensures ∙ sym (true-unused a.marks.now a.index.now a.j (sym c.byte_at.ensures ∙ c.if-byte_at-eq0.true))

pub returns-then-slot-ge-ENTRIES : goal.returns-then-slot-ge-ENTRIES
returns-then-slot-ge-ENTRIES c = let a = c.args in
    sym (true-out a.marks.now a.index.now a.j (λ z. c.if-byte_at-eq0.false (c.byte_at.ensures ∙ z)) (omega (arith, c.byte_at-slot.ensures)))

pub returns : goal.returns
returns c = let a = c.args in
    c.is_key.ensures
    ∙ ap (λ k. eqb (key_at a.index.now a.j) (get_or a.marks.now k 0)) c.byte_at-slot.ensures
    ∙ sym (true-used a.marks.now a.index.now a.j (λ z. c.if-byte_at-eq0.false (c.byte_at.ensures ∙ z)))
