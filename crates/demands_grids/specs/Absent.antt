-- "Not available is not a number" (request A5), as statements.
-- Assumes nothing.
use Rattle.std.specs.Prelude.{ℕ, ◌+◌, ◌*◌, ◌-◌, ◌/◌, ◌^◌, ◌<◌, ◌≡◌, true, false, List, ◌⊎◌, ℤ, pos, neg_ℤ, length, get_or, take, replicate, Option, Some, None}
use Rattle.arith.specs.Lists.{at}
use Rattle.field.specs.Field.{field, signed_of}
use Rattle.layout.specs.Layout.{width, signed, total, row_of}
use Rattle.record_rows.specs.Numbers.{says}
use Rattle.record_rows.specs.declared.Pair.{Pair}
use Rattle.record_transformations.specs.declared.Name.{Name}
use Rattle.record_transformations.specs.declared.System.{System}
use Rattle.record_transformations.specs.declared.Area.{Area}
use Rattle.record_transformations.specs.declared.Parameters.{Parameters}
use Rattle.record_transformations.specs.declared.Ellipsoids.{Ellipsoids}
use Rattle.record_transformations.specs.declared.Helmert.{Helmert}
use Rattle.record_transformations.specs.declared.MolodenskiBadekas.{MolodenskiBadekas}
use Rattle.record_transformations.specs.Transformations.{helmert_row, molodenski_badekas_row}
use Rattle.record_grids.specs.declared.Shifts.{Shifts}
use Rattle.record_grids.specs.declared.Grid.{Grid}
use Rattle.record_grids.specs.Grids.{grid_row}
use Rattle.record_projections.specs.declared.Projection.{Projection}
use Rattle.record_projections.specs.declared.Lambert.{Lambert}
use Rattle.record_projections.specs.declared.ObliqueMercator.{ObliqueMercator}
use Rattle.record_projections.specs.Projections.{projection_row, lambert_row, oblique_mercator_row}
use Rattle.message_rows.specs.Message.{refusal, row, layout, row_layout, write_row}
use Rattle.message_records.specs.Kinds.{read_helmert, read_molodenski_badekas, read_grid, read_projection, read_lambert, read_oblique_mercator, write_helmert, write_molodenski_badekas, write_grid, write_projection, write_lambert, write_oblique_mercator}
use Rattle.grid_bilinear.specs.Bilinear.{cell}
use Rattle.grid_shifts.specs.Shift.{part, node_of, surface}
use Rattle.demands_grids.specs.Grids.{AnsweredAt, grid_at, north_steps, east_steps}

-- "Reading a signed field shall say either a value or that there is none": none exactly where its bits are the most negative pattern
pub record NoneExactly (w u : ℕ) : Type 0 where
  pub none : u ≡ 2 ^ w / 2 → signed_of w u ≡ None
  pub pattern : signed_of w u ≡ None → u ≡ 2 ^ w / 2

abbrev pub NoneIsThePattern : Type 0
NoneIsThePattern = (w u : ℕ) → NoneExactly w u

-- the bits of field k of a message
abbrev pub bits_at : List ℕ → ℕ → ℕ
bits_at s k = field s (total (take k (layout s))) (width (get_or (layout s) k 0))

-- the same of field k of a message, which is signed
pub record FieldNone (s : List ℕ) (k : ℕ) : Type 0 where
  pub none : bits_at s k ≡ 2 ^ width (get_or (layout s) k 0) / 2 → says (row s) k ≡ None
  pub pattern : says (row s) k ≡ None → bits_at s k ≡ 2 ^ width (get_or (layout s) k 0) / 2

abbrev pub AcceptedNone : Type 0
AcceptedNone = (s : List ℕ) (k : ℕ) → refusal s ≡ 0 → k < length (layout s) → signed (get_or (layout s) k 0) ≡ true → FieldNone s k

-- an unsigned field of an accepted message has a value
abbrev pub UnsignedHasValue : Type 0
UnsignedHasValue = (s : List ℕ) (k : ℕ) → refusal s ≡ 0 → signed (get_or (layout s) k 0) ≡ false → says (row s) k ≡ None → ⊥

-- "a present value equal to the pattern is RANGE when written": z and b are the values and the presence bytes of a row
abbrev pub PatternRefused : Type 0
PatternRefused =
    (z : List ℤ) (b out : List ℕ) (k : ℕ) → k < length (row_layout (row_of z b)) → signed (get_or (row_layout (row_of z b)) k 0) ≡ true → get_or b k 0 ≡ 1
    → at z k ≡ neg_ℤ (pos (2 ^ width (get_or (row_layout (row_of z b)) k 0) / 2)) → (write_row z b out).answer.refusal ≡ 5

-- the row of a record has a present value equal to the pattern
pub record PatternPresent (v : List (Option ℤ)) : Type 0 where
  pub place : ℕ
  pub below : place < length v
  pub signed : signed (get_or (row_layout v) place 0) ≡ true
  pub value : says v place ≡ Some (neg_ℤ (pos (2 ^ width (get_or (row_layout v) place 0) / 2)))

pub record RecordPatternRefused (out : List ℕ) : Type 0 where
  pub helmert : (r : Helmert) → PatternPresent (helmert_row r) → (write_helmert r out).answer.refusal ≡ 5
  pub molodenski_badekas : (r : MolodenskiBadekas) → PatternPresent (molodenski_badekas_row r) → (write_molodenski_badekas r out).answer.refusal ≡ 5
  pub grid : (r : Grid) → PatternPresent (grid_row r) → (write_grid r out).answer.refusal ≡ 5
  pub projection : (r : Projection) → PatternPresent (projection_row r) → (write_projection r out).answer.refusal ≡ 5
  pub lambert : (r : Lambert) → PatternPresent (lambert_row r) → (write_lambert r out).answer.refusal ≡ 5
  pub oblique_mercator : (r : ObliqueMercator) → PatternPresent (oblique_mercator_row r) → (write_oblique_mercator r out).answer.refusal ≡ 5

-- ---- "a refused record holds values 0"

-- a signed field
abbrev pub value0 : Option ℤ
value0 = Some (pos 0)

abbrev pub pair0 : Pair
pair0 = record { horizontal = pos 0; vertical = pos 0 }

abbrev pub name0 : Name
name0 = record { length = 0; chars = replicate 31 0 }

abbrev pub system0 : System
system0 = record { sin = pos 0; messages = pos 0; plate = pos 0; computation = pos 0; height = pos 0 }

abbrev pub area0 : Area
area0 = record { latitude = value0; longitude = value0; north = pos 0; east = pos 0 }

abbrev pub parameters0 : Parameters
parameters0 = record { dx = value0; dy = value0; dz = value0; rx = value0; ry = value0; rz = value0; ds = value0 }

abbrev pub ellipsoids0 : Ellipsoids
ellipsoids0 = record { source_major = pos 0; source_minor = pos 0; target_major = pos 0; target_minor = pos 0 }

abbrev pub shifts0 : Shifts
shifts0 = record { north = value0; east = value0; height = value0 }

abbrev pub helmert0 : Helmert
helmert0 =
    record { number = pos 0; source = name0; target = name0; system = system0; area = area0; parameters = parameters0; ellipsoids = ellipsoids0; quality = pair0 }

abbrev pub molodenski_badekas0 : MolodenskiBadekas
molodenski_badekas0 =
    record { number = pos 0; source = name0; target = name0; system = system0; area = area0; parameters = parameters0; point = record { x = value0; y = value0; z = value0 }; ellipsoids = ellipsoids0; quality = pair0 }

abbrev pub grid0 : Grid
grid0 =
    record { number = pos 0; sin = pos 0; indicators = pair0; origin = record { north = value0; east = value0 }; spacing = record { north = pos 0; east = pos 0 }; mean = shifts0; nodes = replicate 16 shifts0; methods = pair0; quality = pair0; day = pos 0 }

abbrev pub projection0 : Projection
projection0 =
    record { number = pos 0; sin = pos 0; projection = pos 0; latitude = value0; longitude = value0; scale = pos 0; easting = pos 0; northing = value0 }

abbrev pub lambert0 : Lambert
lambert0 =
    record { number = pos 0; sin = pos 0; projection = pos 0; latitude = value0; longitude = value0; parallel1 = value0; parallel2 = value0; easting = pos 0; northing = value0 }

abbrev pub oblique_mercator0 : ObliqueMercator
oblique_mercator0 =
    record { number = pos 0; sin = pos 0; projection = pos 0; rectified = pos 0; latitude = value0; longitude = value0; azimuth = pos 0; difference = value0; scale = pos 0; easting = pos 0; northing = value0 }

pub record RefusedIsZero (s : List ℕ) : Type 0 where
  pub helmert : ((read_helmert s).refusal ≡ 0 → ⊥) → (read_helmert s).value ≡ helmert0
  pub molodenski_badekas : ((read_molodenski_badekas s).refusal ≡ 0 → ⊥) → (read_molodenski_badekas s).value ≡ molodenski_badekas0
  pub grid : ((read_grid s).refusal ≡ 0 → ⊥) → (read_grid s).value ≡ grid0
  pub projection : ((read_projection s).refusal ≡ 0 → ⊥) → (read_projection s).value ≡ projection0
  pub lambert : ((read_lambert s).refusal ≡ 0 → ⊥) → (read_lambert s).value ≡ lambert0
  pub oblique_mercator : ((read_oblique_mercator s).refusal ≡ 0 → ⊥) → (read_oblique_mercator s).value ≡ oblique_mercator0

-- ---- "A mean is formed only when every node with weight has a value"

pub record HasValue (r : Option ℤ) : Type 0 where
  pub value : ℤ
  pub is : r ≡ Some value

-- so do the mean shift and, b steps north and a steps east of the corner of the cell k from the south and l from the west, each node whose weight is not 0
pub record Formed (g : Grid) (c k l b a : ℕ) : Type 0 where
  pub mean : HasValue (part c g.mean)
  pub sw : (((surface g c).W - a) * ((surface g c).H - b) ≡ 0) ⊎ HasValue (node_of g.nodes c (3 - k) l)
  pub se : (a * ((surface g c).H - b) ≡ 0) ⊎ HasValue (node_of g.nodes c (3 - k) (l + 1))
  pub nw : (((surface g c).W - a) * b ≡ 0) ⊎ HasValue (node_of g.nodes c (2 - k) l)
  pub ne : (a * b ≡ 0) ⊎ HasValue (node_of g.nodes c (2 - k) (l + 1))

abbrev pub MeanFormed : Type 0
MeanFormed =
    (s : List ℕ) (c : ℕ) (n e : ℤ) → AnsweredAt s c n e
    → Formed (grid_at s) c (cell (surface (grid_at s) c).H (north_steps (grid_at s) c n)) (cell (surface (grid_at s) c).W (east_steps (grid_at s) c e))
    (north_steps (grid_at s) c n - cell (surface (grid_at s) c).H (north_steps (grid_at s) c n) * (surface (grid_at s) c).H)
    (east_steps (grid_at s) c e - cell (surface (grid_at s) c).W (east_steps (grid_at s) c e) * (surface (grid_at s) c).W)
