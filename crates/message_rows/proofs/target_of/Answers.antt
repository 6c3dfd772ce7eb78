-- `message_rows::target_of` meets its contract.
-- Assumes nothing.
use mathlib.Core.Path.{◌∙◌}
use borrow.Author.Tests.{lt-leb, le-leb}
use borrow.Author.Rules.{rules}
use Rattle.message_rows.proofs.target_of.Goals as goal

pub returns-then-number-gt1022 : goal.returns-then-number-gt1022
returns-then-number-gt1022 c = rw (lt-leb c.args.number 1022 c.if-number-gt1022.true)

pub returns : goal.returns
returns c = rw (le-leb c.args.number 1022 c.if-number-gt1022.false) c.field_at.ensures
