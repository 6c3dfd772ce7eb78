-- The records of messages 1025, 1026 and 1027, from the row of a message and back: v k is what place k says in wire order, DF002 standing at place 0.
-- A signed field of a record is what it says, a value or none; an unsigned one is a number.
-- Assumes nothing.
use Rattle.std.specs.Prelude.{ℕ, List, [], ◌∷◌, ℤ, Option, Some}
use Rattle.record_rows.specs.Numbers.{number_at}
use Rattle.record_projections.specs.declared.Projection.{Projection}
use Rattle.record_projections.specs.declared.Lambert.{Lambert}
use Rattle.record_projections.specs.declared.ObliqueMercator.{ObliqueMercator}

unfoldable pub projection_of : (ℕ → Option ℤ) → Projection
projection_of v =
    record {
      number = number_at v 0;
      sin = number_at v 1;
      projection = number_at v 2;
      latitude = v 3;
      longitude = v 4;
      scale = number_at v 5;
      easting = number_at v 6;
      northing = v 7;
    }

unfoldable pub projection_row : Projection → List (Option ℤ)
projection_row r =
    Some r.number ∷ Some r.sin ∷ Some r.projection ∷ r.latitude ∷ r.longitude ∷ Some r.scale ∷ Some r.easting ∷ r.northing ∷ []

unfoldable pub lambert_of : (ℕ → Option ℤ) → Lambert
lambert_of v =
    record {
      number = number_at v 0;
      sin = number_at v 1;
      projection = number_at v 2;
      latitude = v 3;
      longitude = v 4;
      parallel1 = v 5;
      parallel2 = v 6;
      easting = number_at v 7;
      northing = v 8;
    }

unfoldable pub lambert_row : Lambert → List (Option ℤ)
lambert_row r =
    Some r.number ∷ Some r.sin ∷ Some r.projection ∷ r.latitude ∷ r.longitude ∷ r.parallel1 ∷ r.parallel2 ∷ Some r.easting ∷ r.northing ∷ []

unfoldable pub oblique_mercator_of : (ℕ → Option ℤ) → ObliqueMercator
oblique_mercator_of v =
    record {
      number = number_at v 0;
      sin = number_at v 1;
      projection = number_at v 2;
      rectified = number_at v 3;
      latitude = v 4;
      longitude = v 5;
      azimuth = number_at v 6;
      difference = v 7;
      scale = number_at v 8;
      easting = number_at v 9;
      northing = v 10;
    }

unfoldable pub oblique_mercator_row : ObliqueMercator → List (Option ℤ)
oblique_mercator_row r =
    Some r.number
    ∷ Some r.sin
    ∷ Some r.projection
    ∷ Some r.rectified
    ∷ r.latitude
    ∷ r.longitude
    ∷ Some r.azimuth
    ∷ r.difference
    ∷ Some r.scale
    ∷ Some r.easting
    ∷ r.northing
    ∷ []
