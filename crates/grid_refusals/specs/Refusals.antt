-- Refusals 8 COMPONENT to 13 SPACING of the shift: document 01, "The grid" and "Refusal numbers".
-- Assumes nothing.
use Rattle.std.specs.Prelude.{ℕ, Bool, not, cond, ◌&&◌, ◌||◌, List, [], ◌∷◌, eqb, ltb, ℤ, pos, nat_abs}
use Rattle.arith.specs.First.{Test}
use Rattle.arith.specs.Whole.{same_z}
use Rattle.layout.specs.Layout.{available}
use Rattle.record_grids.specs.declared.Origin.{Origin}
use Rattle.record_grids.specs.declared.Settings.{Settings}
use Rattle.record_rows.specs.declared.Pair.{Pair}

-- by the message number: 1023 gives angles, 1024 metres
abbrev pub ellipsoidal : ℤ → Bool
ellipsoidal number = same_z number (pos 1023)

-- components 0 and 1 go by the horizontal indicators, component 2 by the vertical ones
abbrev pub side : ℕ → Pair → ℤ
side c p = cond (eqb c 2) p.vertical p.horizontal

-- DF192 and DF193, DF202; DF203, which is unsigned, has a value in every message
abbrev pub origin_available : Origin → Bool
origin_available o = available o.north && available o.east

-- ---- refusals

-- "1023: beyond ±3,240,000,000 or ±6,480,000,000; 1024: either beyond ±10^12"
abbrev pub beyond : ℤ → ℤ → ℤ → Bool
beyond number n e =
    cond (ellipsoidal number)
    (ltb 3240000000 (nat_abs n) || ltb 6480000000 (nat_abs e))
    (ltb 1000000000000 (nat_abs n) || ltb 1000000000000 (nat_abs e))

-- 8 COMPONENT, 9 POSITION, 10 OFF, 11 METHOD, 12 ORIGIN, 13 SPACING
abbrev pub field_tests : Settings → ℕ → ℤ → ℤ → List Test
field_tests f c n e =
    (8, ltb 2 c)
    ∷ (9, beyond f.number n e)
    ∷ (10, same_z (side c f.indicators) (pos 0))
    ∷ (11, not (same_z (side c f.methods) (pos 0)))
    ∷ (12, not (origin_available f.origin))
    ∷ (13, same_z f.spacing.north (pos 0) || same_z f.spacing.east (pos 0))
    ∷ []
