-- `record_rows::counter_at` meets its contract.
-- Assumes nothing.
use native.Mathlib.Omega.{arith}
use borrow.Author.Tests.{lt-leb, le-leb}
use Rattle.arith.specs.Whole.{natural}
use Rattle.layout.specs.Layout.{row_of}
use Rattle.record_rows.specs.Numbers.{says, number_at}
use Rattle.record_rows.proofs.counter_at.Goals as goal

pub returns-then-n-gt31 : goal.returns-then-n-gt31
returns-then-n-gt31 c = let a = c.args in
    let e = c.natural_at-n.ensures in
    record { value = rw (lt-leb (natural (number_at (says (row_of a.values.now a.present.now)) a.k)) 31 (omega (arith, e, c.if-n-gt31.true))); upper_bound = omega arith }

pub returns : goal.returns
returns c = let a = c.args in
    let e = c.natural_at-n.ensures in
    record { value = rw (le-leb (natural (number_at (says (row_of a.values.now a.present.now)) a.k)) 31 (omega (arith, e, c.if-n-gt31.false))) e; upper_bound = omega (arith, c.if-n-gt31.false) }
