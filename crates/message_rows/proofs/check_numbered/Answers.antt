-- `message_rows::check_numbered` meets its contract.
-- Assumes nothing.
use native.Mathlib.Omega.{arith}
use Rattle.message_rows.proofs.Head.{counted-low}
use borrow.Author.Rules.{rules}
use Rattle.message_rows.proofs.check_numbered.Goals as goal

pub target_of-m-requires : goal.target_of-m-requires
target_of-m-requires c = let a = c.args in omega (arith, c.source_of-n.ensures, counted-low a.s.now a.number 12)

pub check_counted-requires : goal.check_counted-requires
check_counted-requires c = record { number = c.requires; source = c.source_of-n.ensures; target = c.target_of-m.ensures }
