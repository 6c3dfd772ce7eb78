-- `table_indexed::mark_key` meets its contract: both cases of the definition.
-- Assumes nothing.
use borrow.Author.Tests.{eq-eqb, ne_eqb}
use Rattle.table_indexed.specs.Private.{mark_key}
use Rattle.table_indexed.proofs.mark_key.Goals as goal

pub returns-then-mark-eq0 : goal.returns-then-mark-eq0
unfolding mark_key
returns-then-mark-eq0 c = rw (eq-eqb _ 0 c.if-mark-eq0.true)

pub returns : goal.returns
unfolding mark_key
returns c = rw (ne_eqb _ 0 c.if-mark-eq0.false)
