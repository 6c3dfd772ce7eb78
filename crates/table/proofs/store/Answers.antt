-- `table::store` meets its contract: a table that is not well formed is refused, and any other has its marks.
-- Assumes nothing.
use mathlib.Core.Path.{sym, ◌∙◌}
use Rattle.table.proofs.Marks.{marked, unmarked}
use Rattle.table.proofs.Calls.{store-table}
use Rattle.table.proofs.store.Goals as goal

pub returns-in_default : goal.returns-in_default
returns-in_default c = let a = c.args in
    let w = unmarked a.table.now (λ row e. c.in_default.not-Some row (c.checked_marks.ensures ∙ e)) in
    let s = store-table a.table.now a.owner a.message.now w in record { answer = sym s.number; output = sym s.table }

pub returns : goal.returns
returns c = let k = marked c.in-Some.ensures in record { answer = c.store_marked.ensures.answer k; output = c.store_marked.ensures.output k }
