-- What only promises between crates name.
-- Assumes nothing.
use Rattle.std.specs.Prelude.{ℕ, ◌-◌, ◌*◌, Bool, not, cond, ◌&&◌, eqb, leb, ℤ, pos, nat_abs}
use Rattle.std.specs.Int.Signed.{lt_z}
use Rattle.arith.specs.First.{first}
use Rattle.layout.specs.Layout.{value_in}
use Rattle.record_grids.specs.declared.Settings.{Settings}
use Rattle.grid_refusals.specs.Refusals.{ellipsoidal}
use Rattle.grid_direction.specs.Inner.{along_of}
use Rattle.grid_direction.specs.declared.PlaceAlong.{PlaceAlong}
use Rattle.grid_place.specs.declared.Located.{Located}
use Rattle.grid_place.specs.declared.TwoPlaces.{TwoPlaces}
use Rattle.grid_place.specs.Position.{height_of, width_of, north_from, east_from, place_tests}

-- ---- the place

-- refusal r, and no place
abbrev pub no_place : ℕ → Located
no_place r = record { refusal = r; row = 0; column = 0; north = 0; east = 0; height = 0; width = 0 }

-- a place in both directions, in cells h high and w wide
abbrev pub place_of : PlaceAlong → PlaceAlong → (h w : ℕ) → Located
place_of n e h w =
    record {
      refusal = 0;
      row = n.cell;
      column = e.cell;
      north = n.steps - n.cell * h;
      east = e.steps - e.cell * w;
      height = h;
      width = w;
    }

-- the place of a position
unfoldable pub located : Settings → ℕ → ℤ → ℤ → Located
located f c n e =
    let r = first (place_tests f c n e) in
    cond (eqb r 0)
    (place_of (along_of (height_of f) (north_from f n)) (along_of (width_of f) (east_from f e)) (height_of f) (width_of f))
    (no_place r)

-- ---- what the fields of a grid message can hold: DF192 and DF193 within ±648,000 and ±1,296,000, DF202 int25, DF203 uint26, spacings uint12

abbrev pub spacing_held : ℤ → Bool
spacing_held d = not (lt_z d (pos 0)) && leb (nat_abs d) 4095

unfoldable pub settings_held : Settings → Bool
settings_held f =
    leb (nat_abs (value_in f.origin.north)) 67108864
    && leb (nat_abs (value_in f.origin.east)) (cond (ellipsoidal f.number) 1296000 67108864)
    && spacing_held f.spacing.north
    && spacing_held f.spacing.east

-- 5 RANGE of what no grid message holds, then as above
unfoldable pub held_place : Settings → ℕ → ℤ → ℤ → Located
held_place f c n e = cond (settings_held f) (located f c n e) (no_place 5)

-- ---- for all three components: 0 and 1 go by the horizontal indicators, 2 by the vertical ones

-- the refusals of the places h and v, and the place where one of these is 0
abbrev pub two_places_of : Located → Located → TwoPlaces
two_places_of h v = record { horizontal = h.refusal; vertical = v.refusal; place = cond (eqb h.refusal 0) h v }

unfoldable pub held_two_places : Settings → ℤ → ℤ → TwoPlaces
held_two_places f n e = two_places_of (held_place f 0 n e) (held_place f 2 n e)
