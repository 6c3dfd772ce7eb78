-- The place of a position in a grid: document 01, "The grid" and "Refusal numbers", with request A2.
-- Assumes nothing.
use Rattle.std.specs.Prelude.{ℕ, ◌-◌, ◌*◌, ◌%◌, cond, ◌||◌, List, [], ◌∷◌, ◌++◌, ℤ, pos, negsuc, ◌+ℤ◌, ◌-ℤ◌, ◌*ℤ◌}
use Rattle.arith.specs.First.{Test}
use Rattle.arith.specs.Whole.{natural}
use Rattle.layout.specs.Layout.{value_in}
use Rattle.record_grids.specs.declared.Settings.{Settings}
use Rattle.grid_refusals.specs.Refusals.{ellipsoidal, field_tests}
use Rattle.grid_bilinear.specs.Bilinear.{outside}

-- ---- steps, document 01's unit of positions

-- "Positions are whole steps: 0.0001 arc second for 1023 (origin and spacing raw times 5,000), 1 mm for 1024 (raw times 10,000)":
-- DF192 to DF195 have a resolution of 0.5", DF202 to DF205 of 10 m
abbrev pub steps_of : ℤ → ℕ
steps_of number = cond (ellipsoidal number) 5000 10000

-- ---- the difference east of longitudes, "rover minus origin"

-- a whole turn of longitudes, 360 degrees, and half of it; the remainder of z by whole turns, from 0 on
abbrev pub turn : ℕ
turn = 12960000000

abbrev pub half_turn : ℕ
half_turn = 6480000000

abbrev pub without_turns : ℤ → ℕ
without_turns (pos n) = n % turn
without_turns (negsuc n) = turn - 1 - n % turn

-- "brought by whole turns of 12,960,000,000 steps to at least -6,480,000,000 and less than 6,480,000,000"
unfoldable pub by_turns : ℤ → ℤ
by_turns z = pos (without_turns (z +ℤ pos half_turn)) -ℤ pos half_turn

-- longitudes are compared across the antimeridian, eastings of 1024 as plain numbers
abbrev pub east_by : ℤ → ℤ → ℤ
east_by number d = cond (ellipsoidal number) (by_turns d) d

-- ---- the height and the width of a cell, and the differences position minus origin, in steps

abbrev pub height_of : Settings → ℕ
height_of f = natural f.spacing.north * steps_of f.number

abbrev pub width_of : Settings → ℕ
width_of f = natural f.spacing.east * steps_of f.number

abbrev pub north_from : Settings → ℤ → ℤ
north_from f n = n -ℤ pos (steps_of f.number) *ℤ value_in f.origin.north

abbrev pub east_from : Settings → ℤ → ℤ
east_from f e = east_by f.number (e -ℤ pos (steps_of f.number) *ℤ value_in f.origin.east)

-- ---- refusals

-- 8 to 13 (`field_tests`, crate grid_refusals), then 14 OUTSIDE
abbrev pub place_tests : Settings → ℕ → ℤ → ℤ → List Test
place_tests f c n e = field_tests f c n e ++ ((14, outside (height_of f) (north_from f n) || outside (width_of f) (east_from f e)) ∷ [])
