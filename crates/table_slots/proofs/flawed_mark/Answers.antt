-- `table_slots::flawed_mark` meets its contract: each return is a case of the definition.
-- Assumes nothing.
use native.Mathlib.Omega.{arith}
use mathlib.Core.Path.{◌∙◌, ap}
use lib.Dec.{eqb}
use lib.ListN.{get_or, take}
use Rattle.std.proofs.lemmas.List.{get_or-take, length-take-le}
use borrow.Author.Tests.{eq-eqb, ne_eqb}
use Rattle.table_slots.specs.Inner.{has_mark, mark_place, flawed_mark}
use Rattle.table_slots.proofs.Places.{any-of}
use Rattle.table_slots.proofs.flawed_mark.Goals as goal

pub returns-then-g-eq-NO_TAG : goal.returns-then-g-eq-NO_TAG
unfolding flawed_mark
returns-then-g-eq-NO_TAG c = rw (eq-eqb _ _ c.if-g-eq-NO_TAG.true)

pub returns-then-g-eq0 : goal.returns-then-g-eq0
unfolding flawed_mark
returns-then-g-eq0 c = rw (ne_eqb _ _ c.if-g-eq-NO_TAG.false, eq-eqb _ _ c.if-g-eq0.true)

pub returns : goal.returns
unfolding flawed_mark mark_place has_mark
returns c = let row = c.args.row.now in
    let g = get_or row c.args.i 0 in
    let i = c.args.i in
    rw (ne_eqb _ _ c.if-g-eq-NO_TAG.false, ne_eqb _ _ c.if-g-eq0.false)
    (c.contains.ensures.value ∙ any-of (λ m. eqb m g) (take i row) (has_mark row g) i (length-take-le i row (omega arith)) (λ k h. ap (λ m. eqb m g) (get_or-take i row k 0 h)))
