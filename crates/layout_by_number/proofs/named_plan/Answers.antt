-- `layout_by_number::named_plan` meets its contract: the names, then the tail.
-- Assumes nothing.
use Rattle.std.proofs.Common.{arith, ◌∙◌, ap, List, ◌++◌, ℕ}
use Rattle.layout_by_number.proofs.Names.{length-begun, names-taken}
use Rattle.layout_by_number.proofs.named_plan.Goals as goal

pub append-count-requires : goal.append-count-requires
append-count-requires c = let a = c.args in omega (arith, length-begun a.n a.m)

pub returns : goal.returns
returns c = let a = c.args in
    let p = c.requires in
    c.append-count.ensures.1 ∙ ap (λ (l : List ℕ). l ++ a.tail.now) (names-taken a.n a.m p.0 p.1.0)
