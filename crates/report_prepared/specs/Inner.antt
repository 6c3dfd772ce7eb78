-- What only promises between crates name.
-- Assumes nothing.
use Rattle.std.specs.Prelude.{cond, ◌&&◌, Bool, List, [], ◌∷◌, ℕ, ◌+◌, ◌*◌, eqb, ltb, ℤ, pos, nat_abs, ◌+ℤ◌, ◌-ℤ◌, ◌*ℤ◌}
use Rattle.arith.specs.First.{first}
use Rattle.layout.specs.Layout.{value_in, available}
use Rattle.record_grids.specs.declared.Settings.{Settings}
use Rattle.grid_refusals.specs.Refusals.{beyond}
use Rattle.grid_place.specs.Position.{steps_of}
use Rattle.grid_place.specs.Inner.{held_place}
use Rattle.grid_place.specs.declared.Located.{Located}
use Rattle.grid_fields.specs.Inner.{mean_says, node_says}
use Rattle.grid_counts.specs.Counts.{node_factor, mean_factor}
use Rattle.grid_component.specs.declared.Kept.{Kept}
use Rattle.report_prepared.specs.declared.Prepared.{Prepared}
use Rattle.arith.specs.Lists.{up_to, all_below}

abbrev pub node_value : List ℕ → ℕ → ℕ → ℤ
node_value s c i = value_in (node_says s c i)

abbrev pub node_available : List ℕ → ℕ → ℕ → Bool
node_available s c i = available (node_says s c i)

unfoldable pub node_values : List ℕ → ℕ → List ℤ
node_values s c = up_to (node_value s c) 16

-- all sixteen have values
unfoldable pub nodes_available : List ℕ → ℕ → Bool
nodes_available s c = all_below (node_available s c) 16

-- the origin in steps along one direction, or 0 where no message has such a one
unfoldable pub middle_of : ℤ → ℤ → ℤ
middle_of number raw = cond (ltb 67108864 (nat_abs raw)) (pos 0) (pos (steps_of number) *ℤ raw)

-- edges between which there is no position
abbrev pub no_edges : Prepared
no_edges = record { south = pos 1; north = pos 0; west = pos 0; east = pos 0; height = 0; width = 0; mean = pos 0; factor = 0 }

-- the edges of the grid in which the position n, e has the place q
abbrev pub around_of : Located → (n e mean : ℤ) → ℕ → Prepared
around_of q n e mean f =
    let south = n -ℤ pos (q.row * q.height + q.north) in
    let west = e -ℤ pos (q.column * q.width + q.east) in
    record {
      south = south;
      north = south +ℤ pos (3 * q.height);
      west = west;
      east = west +ℤ pos (3 * q.width);
      height = q.height;
      width = q.width;
      mean = mean;
      factor = f;
    }

-- 8 COMPONENT, 9 POSITION, or 0
abbrev pub refusal_at : ℤ → ℕ → ℤ → ℤ → ℕ
refusal_at number c n e = first ((8, ltb 2 c) ∷ (9, beyond number n e) ∷ [])

-- the edges around the place of a position n, e: none where it has no place, or where a corner, south-western or north-eastern, is beyond document 01's limits
unfoldable pub edges_at : List ℕ → Settings → ℕ → ℤ → ℤ → Prepared
edges_at s f c n e =
    let q = held_place f c n e in
    let p = around_of q n e (pos mean_factor *ℤ value_in (mean_says s c)) (node_factor f.number c) in
    cond (eqb q.refusal 0 && eqb (refusal_at f.number c p.south p.west) 0 && eqb (refusal_at f.number c p.north p.east) 0) p no_edges

-- those around the origin: none where the message is refused, or the mean or a node has no value
unfoldable pub prepared_of : List ℕ → Kept → ℕ → Prepared
prepared_of s kept c =
    let f = kept.settings in
    cond (eqb kept.refusal 0 && available (mean_says s c) && nodes_available s c)
    (edges_at s f c (middle_of f.number (value_in f.origin.north)) (middle_of f.number (value_in f.origin.east)))
    no_edges
