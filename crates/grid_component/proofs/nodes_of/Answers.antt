-- `grid_component::nodes_of` meets its contract.
-- Assumes nothing.
use mathlib.Core.Path.{◌≡◌, sym, ap, ◌∙◌}
use mathlib.Core.List.{List}
use Prim.Native.Nat.{ℕ, ◌≤◌, min}
use native.Mathlib.Omega.{arith}
use Rattle.grid_fields.specs.Inner.{node_says, cell_says}
use Rattle.grid_fields.specs.declared.Cells.{Cells}
use Rattle.grid_fields.specs.declared.Nodes.{Nodes}
use Rattle.grid_component.proofs.nodes_of.Goals as goal

-- any other component counts as 2
other-says : (s : List ℕ) (c k l : ℕ) → 2 ≤ c → cell_says s 2 k l ≡ cell_says s c k l
unfolding cell_says node_says
other-says s c k l h = let e : min c 2 ≡ 2 = omega arith in rw e

pub returns-in-0 : goal.returns-in-0
returns-in-0 c = let says : ℕ → Nodes = λ k. cell_says c.args.message.now k c.args.row c.args.column in
    ap (λ (n : Cells). n.north) c.cells_at-n.ensures ∙ ap says (sym c.in-0.is)

pub returns-in-1 : goal.returns-in-1
returns-in-1 c = let says : ℕ → Nodes = λ k. cell_says c.args.message.now k c.args.row c.args.column in
    ap (λ (n : Cells). n.east) c.cells_at-n.ensures ∙ ap says (sym c.in-1.is)

pub returns-in_default : goal.returns-in_default
returns-in_default c = let a = c.args in
    ap (λ (n : Cells). n.height) c.cells_at-n.ensures
    ∙ other-says a.message.now a.component a.row a.column (omega arith)
