-- `table::fill` meets its contract: owner, length, message, zeros.
-- Assumes nothing.
use Rattle.table.proofs.Filled.{filled}
use Rattle.table.proofs.fill.Goals as goal

pub returns : goal.returns
returns c = filled c.args.s.now c.args.owner c.args.m.now _ _ c.requires.0 c.requires.1 c.copy.ensures (c.fill.ensures.after (λ y e. e))
