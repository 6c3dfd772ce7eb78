-- `table_indexed::agrees` meets its contract: each return is a case of what agreement answers.
-- Assumes nothing.
use mathlib.Core.Path.{sym, ap, ◌∙◌}
use mathlib.Core.List.{List}
use Prim.Native.Nat.{ℕ}
use Rattle.table.proofs.Marks.{marked, unmarked}
use Rattle.table_index_search.specs.Agree.{agree}
use Rattle.table_indexed.proofs.Slots.{row-keys}
use Rattle.table_indexed.proofs.Calls.{agrees-table, agrees-index, agrees-done}
use Rattle.table_indexed.proofs.agrees.Goals as goal

pub returns-in_default : goal.returns-in_default
returns-in_default c = let a = c.args in
    sym (agrees-table a.table.now a.index.now (unmarked a.table.now (λ row e. c.in_default.not-Some row (c.checked_marks.ensures ∙ e))))

pub returns-then-not-agrees : goal.returns-then-not-agrees
returns-then-not-agrees c = let a = c.args in
    let k = marked c.in-Some.ensures in
    let keys = c.mark_keys.ensures ∙ row-keys a.table.now _ k.whole k.row_is in
    sym (agrees-index a.table.now a.index.now k.whole (ap (λ (l : List ℕ). agree l a.index.now) (sym keys) ∙ sym c.agrees.ensures ∙ c.if-not-agrees.true))

pub returns : goal.returns
returns c = let a = c.args in
    let k = marked c.in-Some.ensures in
    let keys = c.mark_keys.ensures ∙ row-keys a.table.now _ k.whole k.row_is in
    sym (agrees-done a.table.now a.index.now k.whole (ap (λ (l : List ℕ). agree l a.index.now) (sym keys) ∙ sym c.agrees.ensures ∙ c.if-not-agrees.false))
