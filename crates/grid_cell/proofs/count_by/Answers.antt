-- `grid_cell::count_by` meets its contract.
-- Assumes nothing.
use Rattle.std.proofs.Common.{sym, ap, ◌∙◌, ℤ}
use Rattle.arith.proofs.Machine.{is-back}
use Rattle.arith.proofs.Back.{held}
use Rattle.grid_cell.specs.Inner.{count_by}
use Rattle.grid_cell.proofs.Held.{bounds-say, count_held, count_none}
use Rattle.grid_cell.proofs.count_by.Goals as goal

pub returns-then-not-count_held : goal.returns-then-not-count_held
returns-then-not-count_held c = let a = c.args in
    count_none _ a.factor a.n a.k (sym c.count_held.ensures ∙ c.if-not-count_held.true) ∙ ap (λ (z : ℤ). count_by z a.factor a.n a.k) (is-back c.ranges.mean)

pub count_of-requires : goal.count_of-requires
count_of-requires c = let a = c.args in bounds-say _ a.factor a.n a.k (sym c.count_held.ensures ∙ c.if-not-count_held.false)

pub returns : goal.returns
returns c = let a = c.args in
    held c.count_of.result c.count_of.type_inv
    ∙ c.count_of.ensures
    ∙ count_held _ a.factor a.n a.k (sym c.count_held.ensures ∙ c.if-not-count_held.false)
    ∙ ap (λ (z : ℤ). count_by z a.factor a.n a.k) (is-back c.ranges.mean)
