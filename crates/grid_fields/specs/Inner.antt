-- What only promises between crates name.
-- Assumes nothing.
use Rattle.std.specs.Prelude.{ℕ, ◌+◌, min, ◌-◌, ◌*◌, cond, ◌||◌, List, eqb, ltb, get_or, take, pos, ℤ, Option, Some}
use Rattle.field.specs.Inner.{field_at}
use Rattle.layout.specs.Layout.{width, total, reading_of}
use Rattle.layout_tables.specs.Layouts.{layout1023, layout1024}
use Rattle.grid_fields.specs.declared.Nodes.{Nodes}
use Rattle.grid_fields.specs.declared.Cells.{Cells}

-- the layout by the number DF002: that of 1024 for any other number than 1023
unfoldable pub grid_layout : List ℕ → List ℕ
grid_layout s = cond (eqb (field_at s 0 12) 1023) layout1023 layout1024

-- what field k of that layout says at its bit, DF002 being field 0
unfoldable pub grid_says : List ℕ → ℕ → Option ℤ
grid_says s k =
    let e = get_or (grid_layout s) k 0 in
    reading_of e (field_at s (total (take k (grid_layout s))) (width e))

-- the mean of component c, 0 to 2: any other number counts as 2
unfoldable pub mean_says : List ℕ → ℕ → Option ℤ
mean_says s c = grid_says s (8 + min c 2)

-- node i of component c, numbered from 0: the value 0 where there is no such node
unfoldable pub node_says : List ℕ → ℕ → ℕ → Option ℤ
node_says s c i = cond (ltb i 16) (grid_says s (11 + 3 * i + min c 2)) (Some (pos 0))

-- the nodes of the cell k from the south and l from the west: node 4 i + j is that i from the north and j from the west
abbrev pub nodes_said : List ℕ → (c k l : ℕ) → Nodes
nodes_said s c k l =
    record {
      sw = node_says s c (4 * (3 - k) + l);
      se = node_says s c (4 * (3 - k) + (l + 1));
      nw = node_says s c (4 * (2 - k) + l);
      ne = node_says s c (4 * (2 - k) + (l + 1));
    }

abbrev pub no_nodes : Nodes
no_nodes = record { sw = Some (pos 0); se = Some (pos 0); nw = Some (pos 0); ne = Some (pos 0) }

-- the value 0 where there is no such cell
unfoldable pub cell_says : List ℕ → (c k l : ℕ) → Nodes
cell_says s c k l = cond (ltb 2 k || ltb 2 l) no_nodes (nodes_said s c k l)

-- the same of all three components
abbrev pub cells_say : List ℕ → (k l : ℕ) → Cells
cells_say s k l = record { north = cell_says s 0 k l; east = cell_says s 1 k l; height = cell_says s 2 k l }
