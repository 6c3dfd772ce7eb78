-- `grid_rows::increments::rounded` meets its contract: one comparison decides the half.
-- Assumes nothing.
use mathlib.Core.Path.{◌∙◌}
use native.Mathlib.Omega.{arith}
use borrow.Author.Rules.{rules}
use Rattle.arith.proofs.Machine.{Num, arg, lit, add, fits}
use Rattle.grid_rows.proofs.Halves.{half_up_lem, half_down}
use Rattle.grid_rows.proofs.increments.rounded.Goals as goal

pub returns-then-area-rest : goal.returns-then-area-rest
returns-then-area-rest c = let whole : Num = arg c.args.whole 10000000001 c.requires.1 tt in
    let more : Num = add whole (lit 1 tt) tt in
    more.held ∙ half_up_lem c.args.area c.args.whole c.args.rest (omega arith)

pub returns : goal.returns
returns c = let whole : Num = arg c.args.whole 10000000001 c.requires.1 tt in
    whole.held ∙ half_down c.args.area c.args.whole c.args.rest (omega arith)

pub overflow_add-result : goal.overflow_add-result
overflow_add-result c =
    let whole : Num = arg c.args.whole 10000000001 c.requires.1 tt in
    let more : Num = add whole (lit 1 tt) tt in
    fits more
