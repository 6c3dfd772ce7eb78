-- Each record of 1025, 1026 and 1027 and its row are each other's inverse: of a row whose unsigned places say values.
-- Assumes nothing.
use Rattle.std.proofs.Common.{ℤ, Option}
use mathlib.Core.Path.{◌≡◌, refl}
use mathlib.Core.List.{List}
use lib.ListN.{length}
use Rattle.record_rows.specs.Numbers.{says}
use Rattle.record_projections.specs.declared.Projection.{Projection}
use Rattle.record_projections.specs.declared.Lambert.{Lambert}
use Rattle.record_projections.specs.declared.ObliqueMercator.{ObliqueMercator}
use Rattle.record_projections.specs.Projections.{projection_of, projection_row, lambert_of, lambert_row, oblique_mercator_of, oblique_mercator_row}
use Rattle.record_rows.proofs.Rows.{Valued, all_of}

-- ---- 1025

pub record ProjectionValued (v : List (Option ℤ)) : Type 0 where
  pub number : Valued (says v 0)
  pub sin : Valued (says v 1)
  pub projection : Valued (says v 2)
  pub scale : Valued (says v 5)
  pub easting : Valued (says v 6)

pub projection-of-row : (r : Projection) → projection_of (says (projection_row r)) ≡ r
unfolding projection_of projection_row
projection-of-row r = refl

pub projection-row-of : (v : List (Option ℤ)) → length v ≡ 8 → ProjectionValued v → projection_row (projection_of (says v)) ≡ v
unfolding projection_of projection_row
projection-row-of v e p =
    rw (← p.number, ← p.sin, ← p.projection, ← p.scale, ← p.easting) (all_of v 8 e)

-- ---- 1026

pub record LambertValued (v : List (Option ℤ)) : Type 0 where
  pub number : Valued (says v 0)
  pub sin : Valued (says v 1)
  pub projection : Valued (says v 2)
  pub easting : Valued (says v 7)

pub lambert-of-row : (r : Lambert) → lambert_of (says (lambert_row r)) ≡ r
unfolding lambert_of lambert_row
lambert-of-row r = refl

pub lambert-row-of : (v : List (Option ℤ)) → length v ≡ 9 → LambertValued v → lambert_row (lambert_of (says v)) ≡ v
unfolding lambert_of lambert_row
lambert-row-of v e p = rw (← p.number, ← p.sin, ← p.projection, ← p.easting) (all_of v 9 e)

-- ---- 1027

pub record ObliqueMercatorValued (v : List (Option ℤ)) : Type 0 where
  pub number : Valued (says v 0)
  pub sin : Valued (says v 1)
  pub projection : Valued (says v 2)
  pub rectified : Valued (says v 3)
  pub azimuth : Valued (says v 6)
  pub scale : Valued (says v 8)
  pub easting : Valued (says v 9)

pub oblique-mercator-of-row : (r : ObliqueMercator) → oblique_mercator_of (says (oblique_mercator_row r)) ≡ r
unfolding oblique_mercator_of oblique_mercator_row
oblique-mercator-of-row r = refl

pub oblique-mercator-row-of : (v : List (Option ℤ)) → length v ≡ 11 → ObliqueMercatorValued v → oblique_mercator_row (oblique_mercator_of (says v)) ≡ v
unfolding oblique_mercator_of oblique_mercator_row
oblique-mercator-row-of v e p =
    rw (← p.number, ← p.sin, ← p.projection, ← p.rectified, ← p.azimuth, ← p.scale, ← p.easting) (all_of v 11 e)
