-- `grid_fields::nodes_in` meets its contract.
-- Assumes nothing.
use Rattle.std.proofs.Common.{ℤ, Option}
use mathlib.Core.Path.{◌≡◌, ap, ◌∙◌}
use mathlib.Core.List.{List}
use Prim.Native.Nat.{ℕ, ◌+◌}
use native.Mathlib.Nat.{add_assoc}
use Rattle.grid_fields.specs.Inner.{node_says}
use Rattle.grid_fields.proofs.nodes_in.Goals as goal

next : (s : List ℕ) (c a l : ℕ) {r : Option ℤ} → r ≡ node_says s c (a + l + 1) → r ≡ node_says s c (a + (l + 1))
next s c a l h = h ∙ ap (node_says s c) (add_assoc a l 1)

pub returns : goal.returns
returns c = λ i. record {
  sw = c.node_at.ensures i;
  se = next _ _ _ _ c.node_at-2.ensures i;
  nw = c.node_at-3.ensures i;
  ne = next _ _ _ _ c.node_at-4.ensures i;
}
