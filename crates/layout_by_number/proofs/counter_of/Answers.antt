-- `layout_by_number::counter_of` meets its contract.
-- Assumes nothing.
use mathlib.Core.Path.{refl}
use native.Mathlib.Omega.{arith}
use borrow.Author.Tests.{lt-leb, le-leb}
use Rattle.layout_by_number.proofs.counter_of.Goals as goal

pub returns-then-n-gt31 : goal.returns-then-n-gt31
returns-then-n-gt31 c = (rw (lt-leb c.args.n 31 c.if-n-gt31.true) refl, omega arith)

pub returns : goal.returns
returns c = (rw (le-leb c.args.n 31 c.if-n-gt31.false) refl, omega arith)
