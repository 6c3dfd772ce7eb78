-- What private functions promise: the fields of one layout.
-- Assumes nothing.
use Rattle.std.specs.Prelude.{ℕ, ◌/◌, ◌%◌, List, get_or, take, cond, eqb, ℤ, pos, Option, ◌+◌, ◌*◌}
use Rattle.field.specs.Inner.{field_at, signed_at}
use Rattle.field.specs.Field.{signed_of}
use Rattle.layout.specs.Layout.{width, total, reading_of}
use Rattle.record_grids.specs.declared.Settings.{Settings}
use Rattle.record_grids.specs.declared.Shifts.{Shifts}
use Rattle.grid_fields.specs.declared.Nodes.{Nodes}
use Rattle.grid_fields.specs.declared.Cells.{Cells}

-- what field k of the layout l says at its bit
unfoldable pub field_says : List ℕ → List ℕ → ℕ → Option ℤ
field_says l s k = reading_of (get_or l k 0) (field_at s (total (take k l)) (width (get_or l k 0)))

-- settings by the bits at which they begin
abbrev pub settings_from : List ℕ → (origin north : ℕ) → Option ℤ → (spacing methods : ℕ) → Settings
settings_from s origin north east spacing methods =
    record {
      number = pos (field_at s 0 12);
      indicators = record { horizontal = pos (field_at s 20 1); vertical = pos (field_at s 21 1) };
      origin = record { north = signed_at s origin north; east = east };
      spacing = record { north = pos (field_at s spacing 12); east = pos (field_at s (spacing + 12) 12) };
      methods = record { horizontal = pos (field_at s methods 2); vertical = pos (field_at s (methods + 2) 2) };
    }

-- the mean of a component by the first of three means that stand side by side, of which the horizontal ones have w bits
abbrev pub mean_from : List ℕ → (first w : ℕ) → ℕ → Option ℤ
mean_from s p w c = cond (eqb c 0) (signed_at s p w) (cond (eqb c 1) (signed_at s (p + w) w) (signed_at s (p + 2 * w) 15))

abbrev pub means_from : List ℕ → (first w : ℕ) → Shifts
means_from s p w = record { north = mean_from s p w 0; east = mean_from s p w 1; height = mean_from s p w 2 }

-- the bit at which the nodes begin
unfoldable pub first_bit : List ℕ → ℕ
first_bit s = cond (eqb (field_at s 0 12) 1023) 120 132

-- one component of the two southern and the two northern nodes of a cell, by what is below it in the western and in the eastern node
abbrev pub component_of : (south north west east : ℕ) → Nodes
component_of south north west east =
    record {
      sw = signed_of 9 (south / west % 512);
      se = signed_of 9 (south / east % 512);
      nw = signed_of 9 (north / west % 512);
      ne = signed_of 9 (north / east % 512);
    }

-- all three: of the 54 bits of two nodes, 45 and 18 are below the first component
abbrev pub components_of : (south north : ℕ) → Cells
components_of south north =
    record {
      north = component_of south north 35184372088832 262144;
      east = component_of south north 68719476736 512;
      height = component_of south north 134217728 1;
    }
