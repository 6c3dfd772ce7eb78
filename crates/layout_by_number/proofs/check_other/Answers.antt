-- `layout_by_number::check_other` meets its contract.
-- Assumes nothing.
use Rattle.std.proofs.Common.{◌≢◌}
use mathlib.Core.Path.{sym, ◌∙◌}
use native.Mathlib.Omega.{arith}
use borrow.Author.Tests.{ne_eqb}
use Rattle.layout_tables.specs.Layouts.{layout_of}
use Rattle.layout_tables.specs.Inner.{layout_by}
use Rattle.layout_by_number.proofs.Named.{check-1021, check-1022, check-none}
use Rattle.layout_by_number.proofs.check_other.Goals as goal

pub returns-in-1021 : goal.returns-in-1021
unfolding layout_by layout_of
returns-in-1021 c = let n = c.counter_of.ensures in
    let m = c.counter_of-in-1021.ensures in
    rw (c.in-1021.is, ← n.0, ← m.0) (c.check_named.ensures ∙ sym (check-1021 _ _ _ n.1 m.1))

pub returns-in-1022 : goal.returns-in-1022
unfolding layout_by layout_of
returns-in-1022 c = let n = c.counter_of-in-1022.ensures in
    let m = c.counter_of-in-1022-2.ensures in
    rw (c.in-1022.is, ← n.0, ← m.0) (c.check_named-in-1022.ensures ∙ sym (check-1022 _ _ _ n.1 m.1))

pub returns-in_default : goal.returns-in_default
unfolding layout_by layout_of
returns-in_default c = let p = c.requires in
    let k : c.args.number ≢ 1021 = omega arith in
    let l : c.args.number ≢ 1022 = omega arith in
    rw (ne_eqb _ _ k, ne_eqb _ _ l, ne_eqb _ _ p.0.0.0.0, ne_eqb _ _ p.0.0.0.1, ne_eqb _ _ p.0.0.1, ne_eqb _ _ p.0.1, ne_eqb _ _ p.1)
    (c.check_size.ensures ∙ sym (check-none _))

pub check_named-requires : goal.check_named-requires
check_named-requires c = (omega arith, (c.counter_of.ensures.1, c.counter_of-in-1021.ensures.1))

pub check_named-requires-in-1022 : goal.check_named-requires-in-1022
check_named-requires-in-1022 c = (omega arith, (c.counter_of-in-1022.ensures.1, c.counter_of-in-1022-2.ensures.1))
