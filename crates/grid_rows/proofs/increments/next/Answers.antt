-- `grid_rows::increments::next` meets its contract.
-- Assumes nothing.
use native.Mathlib.Omega.{arith}
use borrow.Author.Rules.{rules}
use Rattle.arith.proofs.Machine.{Num, arg, lit, add, fits}
use Rattle.grid_rows.proofs.Parts.{no-carry, carry}
use Rattle.grid_rows.proofs.increments.next.Goals as goal

pub returns-then-p-lack : goal.returns-then-p-lack
returns-then-p-lack c = let whole : Num = add (arg c.args.p.whole 10000000000 c.requires.2 tt) (arg c.args.by.whole 10000 c.requires.3 tt) tt in
    no-carry c.args.area c.args.p c.args.by _ whole.held c.if-p-lack.true

pub returns : goal.returns
returns c = let whole : Num = add (arg c.args.p.whole 10000000000 c.requires.2 tt) (arg c.args.by.whole 10000 c.requires.3 tt) tt in
    let more : Num = add whole (lit 1 tt) tt in
    carry c.args.area c.args.p c.args.by _ more.held c.requires.0 c.requires.1 c.if-p-lack.false

pub overflow_add-whole : goal.overflow_add-whole
overflow_add-whole c =
    let whole : Num = add (arg c.args.p.whole 10000000000 c.requires.2 tt) (arg c.args.by.whole 10000 c.requires.3 tt) tt in
    fits whole

pub overflow_add-result-2 : goal.overflow_add-result-2
overflow_add-result-2 c =
    let whole : Num = add (arg c.args.p.whole 10000000000 c.requires.2 tt) (arg c.args.by.whole 10000 c.requires.3 tt) tt in
    let more : Num = add whole (lit 1 tt) tt in
    fits more
