-- What only promises between crates name.
-- Assumes nothing.
use Rattle.std.specs.Prelude.{Bool, not, cond, ◌||◌, ℕ, ℤ, pos, ◌*ℤ◌, Option}
use Rattle.layout.specs.Layout.{value_in, available}
use Rattle.grid_bilinear.specs.Bilinear.{lacks}
use Rattle.grid_cell.specs.Inner.{count_by}
use Rattle.grid_cell.specs.declared.Corners.{Corners}
use Rattle.grid_cell.specs.declared.Weights.{Weights}
use Rattle.grid_fields.specs.declared.Nodes.{Nodes}
use Rattle.grid_counts.specs.declared.Counted.{Counted}
use Rattle.grid_counts.specs.Counts.{node_factor, mean_factor, refused_with}

-- the values of a cell's nodes
abbrev pub values_in : Nodes → Corners
values_in n = record { sw = value_in n.sw; se = value_in n.se; nw = value_in n.nw; ne = value_in n.ne }

-- the mean, or a node with weight, is not available
abbrev pub lacking : Option ℤ → Nodes → Weights → Bool
lacking mean n k =
    not (available mean)
    || lacks k.sw (available n.sw)
    || lacks k.se (available n.se)
    || lacks k.nw (available n.nw)
    || lacks k.ne (available n.ne)

-- the count at a place, from the mean, the nodes and their weights
abbrev pub count_at : ℤ → ℕ → ℤ → Corners → Weights → ℤ
count_at number c mean n k = count_by (pos mean_factor *ℤ mean) (node_factor number c) n k

-- 15 ABSENT, or the count at a place
unfoldable pub cell_count : ℤ → ℕ → Option ℤ → Nodes → Weights → Counted
cell_count number c mean n k =
    cond (lacking mean n k) (refused_with 15) (record { refusal = 0; count = count_at number c (value_in mean) (values_in n) k })
