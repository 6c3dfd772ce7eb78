-- What private functions answer, and what the fields of a grid hold.
-- Assumes nothing.
use Rattle.std.specs.Prelude.{List, cond, ℕ, ◌+◌, ◌-◌, ◌≤◌, eqb, ℤ, pos, nat_abs, Option}
use Rattle.layout.specs.Layout.{value_in}
use Rattle.record_grids.specs.declared.Grid.{Grid}
use Rattle.record_grids.specs.declared.Shifts.{Shifts}
use Rattle.record_grids.specs.Grids.{settings_of}
use Rattle.grid_fields.specs.declared.Nodes.{Nodes}
use Rattle.grid_place.specs.Private.{Fields}
use Rattle.grid_cell.specs.declared.Weights.{Weights}
use Rattle.grid_counts.specs.Inner.{cell_count}
use Rattle.grid_shifts.specs.Shift.{part, node_of, outcome}
use Rattle.grid_shifts.specs.declared.Shift.{Shift}

-- ---- what the ranges of the fields say

-- of a grid that a message holds
pub record Held (g : Grid) : Type 0 where
  pub settings : Fields (settings_of g)
  pub mean : (c : ℕ) → nat_abs (value_in (part c g.mean)) ≤ 16384
  pub nodes : (c i j : ℕ) → nat_abs (value_in (node_of g.nodes c i j)) ≤ 256

-- ---- the shift in a cell

-- the nodes of the cell k from the south and l from the west
abbrev pub nodes_in : List Shifts → (c k l : ℕ) → Nodes
nodes_in nodes c k l =
    record {
      sw = node_of nodes c (3 - k) l;
      se = node_of nodes c (3 - k) (l + 1);
      nw = node_of nodes c (2 - k) l;
      ne = node_of nodes c (2 - k) (l + 1);
    }

-- 15 ABSENT, or the shift at a place
unfoldable pub cell_shift : ℤ → ℕ → Option ℤ → Nodes → Weights → Shift
cell_shift number c mean n k = let r = cell_count number c mean n k in outcome number c r.refusal r.count

-- refusal r, or the shift at a place
unfoldable pub part_shift : ℤ → (c r : ℕ) → Option ℤ → Nodes → Weights → Shift
part_shift number c r mean n k = cond (eqb r 0) (cell_shift number c mean n k) (outcome number c r (pos 0))
