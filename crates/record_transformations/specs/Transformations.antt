-- The records of messages 1021 and 1022, from the row of a message and back: v k is what place k says in wire order, DF002 standing at place 0.
-- A signed field of a record is what it says, a value or none; an unsigned one is a number.
-- Assumes nothing.
use Rattle.std.specs.Prelude.{ℕ, ◌+◌, ◌-◌, ◌%◌, Bool, ◌&&◌, ◌||◌, List, [], ◌∷◌, ◌++◌, eqb, leb, ltb, get_or, replicate, pos, ℤ, Option, Some}
use Rattle.arith.specs.Lists.{up_to, all_below}
use Rattle.arith.specs.Whole.{natural}
use Rattle.record_rows.specs.Numbers.{number_at, counter_at, pair_at, pair_row}
use Rattle.record_transformations.specs.declared.Name.{Name}
use Rattle.record_transformations.specs.declared.System.{System}
use Rattle.record_transformations.specs.declared.Area.{Area}
use Rattle.record_transformations.specs.declared.Parameters.{Parameters}
use Rattle.record_transformations.specs.declared.RotationPoint.{RotationPoint}
use Rattle.record_transformations.specs.declared.Ellipsoids.{Ellipsoids}
use Rattle.record_transformations.specs.declared.Helmert.{Helmert}
use Rattle.record_transformations.specs.declared.MolodenskiBadekas.{MolodenskiBadekas}

-- ---- names: "a length of 0 to 31, and its unused characters are zero"

-- the name whose counter stands at place k, its characters behind it: each is its number modulo 256, and 0 for a negative number
unfoldable pub name_at : (ℕ → Option ℤ) → ℕ → Name
name_at v k =
    record {
      length = counter_at v k;
      chars = up_to (λ j. natural (number_at v (k + 1 + j)) % 256) (counter_at v k) ++ replicate (31 - counter_at v k) 0;
    }

-- character j as a place of a row
abbrev pub char_at : List ℕ → ℕ → Option ℤ
char_at chars j = Some (pos (get_or chars j 0))

unfoldable pub name_row : Name → List (Option ℤ)
name_row n = Some (pos n.length) ∷ up_to (char_at n.chars) n.length

-- character j is used, or zero
abbrev pub char_good : Name → ℕ → Bool
char_good n j = ltb j n.length || eqb (get_or n.chars j 0) 0

unfoldable pub good_name : Name → Bool
good_name n = leb n.length 31 && all_below (char_good n) 31

-- ---- parts of records: from place k on, and as a row

unfoldable pub system_at : (ℕ → Option ℤ) → ℕ → System
system_at v k =
    record { sin = number_at v k; messages = number_at v (k + 1); plate = number_at v (k + 2); computation = number_at v (k + 3); height = number_at v (k + 4) }

unfoldable pub system_row : System → List (Option ℤ)
system_row r = Some r.sin ∷ Some r.messages ∷ Some r.plate ∷ Some r.computation ∷ Some r.height ∷ []

unfoldable pub area_at : (ℕ → Option ℤ) → ℕ → Area
area_at v k = record { latitude = v k; longitude = v (k + 1); north = number_at v (k + 2); east = number_at v (k + 3) }

unfoldable pub area_row : Area → List (Option ℤ)
area_row r = r.latitude ∷ r.longitude ∷ Some r.north ∷ Some r.east ∷ []

unfoldable pub parameters_at : (ℕ → Option ℤ) → ℕ → Parameters
parameters_at v k =
    record { dx = v k; dy = v (k + 1); dz = v (k + 2); rx = v (k + 3); ry = v (k + 4); rz = v (k + 5); ds = v (k + 6) }

unfoldable pub parameters_row : Parameters → List (Option ℤ)
parameters_row r = r.dx ∷ r.dy ∷ r.dz ∷ r.rx ∷ r.ry ∷ r.rz ∷ r.ds ∷ []

unfoldable pub point_at : (ℕ → Option ℤ) → ℕ → RotationPoint
point_at v k = record { x = v k; y = v (k + 1); z = v (k + 2) }

unfoldable pub point_row : RotationPoint → List (Option ℤ)
point_row r = r.x ∷ r.y ∷ r.z ∷ []

unfoldable pub ellipsoids_at : (ℕ → Option ℤ) → ℕ → Ellipsoids
ellipsoids_at v k =
    record { source_major = number_at v k; source_minor = number_at v (k + 1); target_major = number_at v (k + 2); target_minor = number_at v (k + 3) }

unfoldable pub ellipsoids_row : Ellipsoids → List (Option ℤ)
ellipsoids_row r = Some r.source_major ∷ Some r.source_minor ∷ Some r.target_major ∷ Some r.target_minor ∷ []

-- ---- the records

-- where the fields behind both names begin
abbrev pub behind_names : (ℕ → Option ℤ) → ℕ
behind_names v = 3 + counter_at v 1 + counter_at v (2 + counter_at v 1)

unfoldable pub helmert_of : (ℕ → Option ℤ) → Helmert
helmert_of v =
    let b = behind_names v in
    record {
      number = number_at v 0;
      source = name_at v 1;
      target = name_at v (2 + counter_at v 1);
      system = system_at v b;
      area = area_at v (b + 5);
      parameters = parameters_at v (b + 9);
      ellipsoids = ellipsoids_at v (b + 16);
      quality = pair_at v (b + 20);
    }

unfoldable pub helmert_row : Helmert → List (Option ℤ)
helmert_row r =
    (Some r.number ∷ [])
    ++ name_row r.source
    ++ name_row r.target
    ++ system_row r.system
    ++ area_row r.area
    ++ parameters_row r.parameters
    ++ ellipsoids_row r.ellipsoids
    ++ pair_row r.quality

unfoldable pub molodenski_badekas_of : (ℕ → Option ℤ) → MolodenskiBadekas
molodenski_badekas_of v =
    let b = behind_names v in
    record {
      number = number_at v 0;
      source = name_at v 1;
      target = name_at v (2 + counter_at v 1);
      system = system_at v b;
      area = area_at v (b + 5);
      parameters = parameters_at v (b + 9);
      point = point_at v (b + 16);
      ellipsoids = ellipsoids_at v (b + 19);
      quality = pair_at v (b + 23);
    }

unfoldable pub molodenski_badekas_row : MolodenskiBadekas → List (Option ℤ)
molodenski_badekas_row r =
    (Some r.number ∷ [])
    ++ name_row r.source
    ++ name_row r.target
    ++ system_row r.system
    ++ area_row r.area
    ++ parameters_row r.parameters
    ++ point_row r.point
    ++ ellipsoids_row r.ellipsoids
    ++ pair_row r.quality
