-- `table_indexed::remove` meets its contract: each return is a case of what remove answers.
-- Assumes nothing.
use mathlib.Core.Path.{◌≡◌, sym, ap, ◌∙◌}
use Rattle.table.specs.Table.{find_refusal}
use Rattle.table.proofs.Calls.{remove-kept}
use Rattle.table_index.specs.Change.{deleted}
use Rattle.table_indexed.proofs.Calls.{remove-disagrees, remove-refused, remove-done}
use Rattle.table_indexed.proofs.remove.Goals as goal

pub returns-then-a-ne0 : goal.returns-then-a-ne0
returns-then-a-ne0 c = let a = c.args in
    let e = c.agrees-a.ensures in
    let s = remove-disagrees a.table.now a.index.now a.owner a.sin a.group (λ z. c.if-a-ne0.true (e ∙ z)) in record { answer = e ∙ sym s.number; output = sym s.table; kept = sym s.index }

pub returns-then-r-ne0 : goal.returns-then-r-ne0
returns-then-r-ne0 c = let a = c.args in
    let e = sym c.agrees-a.ensures ∙ c.if-a-ne0.false in
    let n : find_refusal a.table.now a.owner a.sin a.group ≡ 0 → ⊥ = λ z. c.if-r-ne0.true (c.remove-r.ensures.answer ∙ z) in
    let s = remove-refused a.table.now a.index.now a.owner a.sin a.group e n in record { answer = c.remove-r.ensures.answer ∙ sym s.number; output = c.remove-r.ensures.output ∙ remove-kept a.table.now a.owner a.sin a.group n ∙ sym s.table; kept = sym s.index }

pub returns : goal.returns
returns c = let a = c.args in
    let e = sym c.agrees-a.ensures ∙ c.if-a-ne0.false in
    let n = sym c.remove-r.ensures.answer ∙ c.if-r-ne0.false in
    let s = remove-done a.table.now a.index.now a.owner a.sin a.group e n in record { answer = sym s.number; output = c.remove-r.ensures.output ∙ sym s.table; kept = c.delete.ensures ∙ ap (deleted a.index.now) c.entry_key.ensures ∙ sym s.index }
