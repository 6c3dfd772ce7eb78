-- `grid_rows::increments::count_of` meets its contract.
-- Assumes nothing.
use mathlib.Core.Path.{◌∙◌}
use native.Mathlib.Nat.{le_trans}
use Prim.Native.Nat.{◌*◌}
use borrow.Author.Rules.{rules}
use Rattle.grid_bilinear.specs.Bilinear.{nearest_whole}
use Rattle.arith.proofs.Machine.{Num, arg, result, add, fits}
use Rattle.grid_rows.specs.Private.{number_of}
use Rattle.grid_rows.proofs.Halves.{nearest-most}
use Rattle.grid_rows.proofs.increments.count_of.Goals as goal

pub overflow_add-result : goal.overflow_add-result
overflow_add-result c =
    let whole : Num = arg c.args.p.whole 10000000000 c.requires.1 tt in
    let count : Num = add (arg c.args.mean 10000000000 c.requires.2 tt)
    (result c.nearest.result 10000000001
    (c.nearest.ensures ∙ (λ i. nearest_whole (number_of c.args.area (whole.held i) c.args.p.rest) c.args.area))
    (nearest-most c.args.area c.args.p.whole c.args.p.rest c.requires.0 c.requires.1) tt) tt in
    fits count

pub returns : goal.returns
returns c =
    let whole : Num = arg c.args.p.whole 10000000000 c.requires.1 tt in
    let count : Num = add (arg c.args.mean 10000000000 c.requires.2 tt)
    (result c.nearest.result 10000000001
    (c.nearest.ensures ∙ (λ i. nearest_whole (number_of c.args.area (whole.held i) c.args.p.rest) c.args.area))
    (nearest-most c.args.area c.args.p.whole c.args.p.rest c.requires.0 c.requires.1) tt) tt in
    count.held
