-- `table_indexed::write_index` meets its contract: each return is a case of what the call answers.
-- Assumes nothing.
use Prim.Native.Nat.{ℕ}
use mathlib.Core.Path.{sym, ap, ◌∙◌}
use mathlib.Core.List.{List}
use Rattle.table.proofs.Marks.{marked, unmarked}
use Rattle.table_index.specs.Change.{rebuilt}
use Rattle.table_indexed.proofs.Slots.{row-keys}
use Rattle.table_indexed.proofs.Calls.{write-table, write-other, write_done}
use Rattle.table_indexed.proofs.write_index.Goals as goal

pub returns-in_default : goal.returns-in_default
returns-in_default c = let a = c.args in
    let w = unmarked a.table.now (λ row e. c.in_default.not-Some row (c.checked_marks.ensures ∙ e)) in
    let s = write-table a.table.now a.index.now w in record { answer = sym s.number; output = sym s.index }

pub returns-then-index-ne-INDEX_SIZE : goal.returns-then-index-ne-INDEX_SIZE
returns-then-index-ne-INDEX_SIZE c = let a = c.args in
    let k = marked c.in-Some.ensures in
    let s = write-other a.table.now a.index.now k.whole c.if-index-ne-INDEX_SIZE.true in record { answer = sym s.number; output = sym s.index }

pub returns : goal.returns
returns c = let a = c.args in
    let t = a.table.now in
    let k = marked c.in-Some.ensures in
    let keys = c.mark_keys.ensures ∙ row-keys t _ k.whole k.row_is in
    let s = write_done t a.index.now k.whole c.if-index-ne-INDEX_SIZE.false in record { answer = sym s.number; output = c.rebuild.ensures ∙ ap (λ (l : List ℕ). rebuilt l a.index.now) keys ∙ sym s.index }
