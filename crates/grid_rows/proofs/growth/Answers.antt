-- `grid_rows::growth` meets its contract.
-- Assumes nothing.
use borrow.Author.Rules.{rules}
use Rattle.arith.proofs.Machine.{Num, arg, lit, sub, fits}
use Rattle.grid_rows.proofs.Parts.{not-owing, owing}
use Rattle.grid_rows.proofs.growth.Goals as goal

pub returns-then-b-a : goal.returns-then-b-a
returns-then-b-a c = let whole : Num = sub (arg c.args.b.whole 2560 c.requires.3 tt) (arg c.args.a.whole 2560 c.requires.2 tt) tt in
    let fewer : Num = sub whole (lit 1 tt) tt in
    owing c.args.area c.args.a c.args.b _ fewer.held c.requires.0 c.if-b-a.true c.requires.2 c.requires.3

pub returns : goal.returns
returns c = let whole : Num = sub (arg c.args.b.whole 2560 c.requires.3 tt) (arg c.args.a.whole 2560 c.requires.2 tt) tt in
    not-owing c.args.area c.args.a c.args.b _ whole.held c.requires.1 c.if-b-a.false c.requires.2 c.requires.3

pub overflow_sub-whole : goal.overflow_sub-whole
overflow_sub-whole c =
    let whole : Num = sub (arg c.args.b.whole 2560 c.requires.3 tt) (arg c.args.a.whole 2560 c.requires.2 tt) tt in
    fits whole

pub overflow_sub-result : goal.overflow_sub-result
overflow_sub-result c =
    let whole : Num = sub (arg c.args.b.whole 2560 c.requires.3 tt) (arg c.args.a.whole 2560 c.requires.2 tt) tt in
    let fewer : Num = sub whole (lit 1 tt) tt in
    fits fewer
