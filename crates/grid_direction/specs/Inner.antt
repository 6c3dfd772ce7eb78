-- What only promises between crates name.
-- Assumes nothing.
use Rattle.std.specs.Prelude.{cond, ◌||◌, ℕ, eqb, ltb, ℤ, nat_abs}
use Rattle.grid_bilinear.specs.Bilinear.{from_edge, outside, cell}
use Rattle.grid_direction.specs.declared.PlaceAlong.{PlaceAlong}

-- the greatest spacing in steps: a raw 4,095 (uint12) of 10,000 steps
abbrev pub greatest_spacing : ℕ
greatest_spacing = 40950000

-- u is the difference position minus origin and d the spacing, in steps: 14 OUTSIDE, which a spacing that no grid has gives too;
-- or 0, the steps from the southern or western edge, and the cell
unfoldable pub along_of : ℕ → ℤ → PlaceAlong
along_of d u =
    let t = nat_abs (from_edge d u) in
    cond (eqb d 0 || ltb greatest_spacing d || outside d u)
    (record { refusal = 14; steps = 0; cell = 0 })
    (record { refusal = 0; steps = t; cell = cell d t })
