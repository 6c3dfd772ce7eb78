-- The shift at a position from a grid message: document 01, "The grid" and "Refusal numbers".
-- Assumes nothing.
use Rattle.std.specs.Prelude.{ℕ, ◌+◌, ◌*◌, not, cond, ◌&&◌, List, [], ◌∷◌, ◌++◌, eqb, ltb, Float, ℤ, pos, ◌+ℤ◌, ◌*ℤ◌, get_or, Option, Some}
use Rattle.std.specs.Float.{binary64}
use Rattle.std.specs.Float.Ieee.{div, of_int}
use Rattle.arith.specs.First.{Test, first}
use Rattle.record_grids.specs.declared.Grid.{Grid}
use Rattle.record_grids.specs.declared.Shifts.{Shifts}
use Rattle.record_grids.specs.Grids.{grid_of, settings_of}
use Rattle.layout.specs.Layout.{value_in, available}
use Rattle.record_rows.specs.Numbers.{says}
use Rattle.message_rows.specs.Message.{row, kind_tests}
use Rattle.message_records.specs.Kinds.{grid_held}
use Rattle.grid_refusals.specs.Refusals.{ellipsoidal}
use Rattle.grid_place.specs.Position.{height_of, width_of, north_from, east_from, place_tests}
use Rattle.grid_counts.specs.Counts.{node_factor, mean_factor}
use Rattle.grid_bilinear.specs.Bilinear.{Surface, nearest_whole, in_cell, absent_in, absent, interpolated}
use Rattle.grid_shifts.specs.declared.Answer.{Answer}
use Rattle.grid_shifts.specs.declared.Answer.TheVariants.{Seconds, Metres, Refused}
use Rattle.grid_shifts.specs.declared.Shift.{Shift}
use Rattle.grid_shifts.specs.declared.ThreeShifts.{ThreeShifts}

-- the components of a shift, document 01's term: 0 north-south, 1 east-west, 2 height
abbrev pub part : ℕ → Shifts → Option ℤ
part c s = cond (eqb c 0) s.north (cond (eqb c 1) s.east s.height)

-- ---- the component's surface, and the place in it

-- node i from the north and j from the west is node 4 i + j of the message, numbered from 0
abbrev pub node_of : List Shifts → ℕ → ℕ → ℕ → Option ℤ
node_of nodes c i j = part c (get_or nodes (4 * i + j) (record { north = Some (pos 0); east = Some (pos 0); height = Some (pos 0) }))

unfoldable pub surface : Grid → ℕ → Surface
surface g c =
    record {
      H = height_of (settings_of g);
      W = width_of (settings_of g);
      mean = pos mean_factor *ℤ value_in (part c g.mean);
      node = λ i j. pos (node_factor g.number c) *ℤ value_in (node_of g.nodes c i j);
      present = λ i j. available (node_of g.nodes c i j);
      mean_present = available (part c g.mean);
    }

-- the differences position minus origin, in steps: "rover minus origin"
unfoldable pub north_of : Grid → ℤ → ℤ
north_of g n = north_from (settings_of g) n

unfoldable pub east_of : Grid → ℤ → ℤ
east_of g e = east_from (settings_of g) e

-- ---- refusals: 8 to 14 (`place_tests`, crate grid_place), then 15 ABSENT

abbrev pub grid_tests : Grid → ℕ → ℤ → ℤ → List Test
grid_tests g c n e =
    place_tests (settings_of g) c n e ++ ((15, absent (surface g c) (north_of g n) (east_of g e)) ∷ [])

-- of a record: 5 RANGE where it is not one that a grid message holds, then 8 to 15
unfoldable pub record_shift_refusal : Grid → ℕ → ℤ → ℤ → ℕ
record_shift_refusal g c n e = first ((5, not (grid_held g)) ∷ grid_tests g c n e)

-- of a message: 1 to 5, 7 KIND, 8 to 15
unfoldable pub shift_refusal : List ℕ → ℕ → ℤ → ℤ → ℕ
shift_refusal s c n e =
    first (kind_tests 1023 1024 s ++ grid_tests (grid_of (says (row s))) c n e)

-- ---- answers

-- "the count, made an f64 without loss, divided once by 100,000 for arc seconds or by 10,000 for metres"
abbrev pub units_of : ℕ → ℤ → Float
units_of per count = div binary64 (of_int binary64 count) (of_int binary64 (pos per))

-- "as arc seconds, metres or a refusal number"
unfoldable pub answer_of : ℤ → ℕ → ℕ → ℤ → Answer
answer_of number c r count =
    cond (eqb r 0)
    (cond (ellipsoidal number && ltb c 2) (Seconds (units_of 100000 count)) (Metres (units_of 10000 count)))
    (Refused r)

-- refusal r, or the count; and the second answer
unfoldable pub outcome : ℤ → ℕ → ℕ → ℤ → Shift
outcome number c r count =
    let given = cond (eqb r 0) count (pos 0) in
    record { refusal = r; count = given; answer = answer_of number c r given }

-- the answer in the cell k from the south and l from the west, y and x steps from the edges of the grid
abbrev pub in_cell_shift : Grid → ℕ → (k l y x : ℕ) → Shift
in_cell_shift g c k l y x =
    outcome g.number c (cond (absent_in (surface g c) k l y x) 15 0)
    ((surface g c).mean +ℤ nearest_whole (in_cell (surface g c) k l y x) ((surface g c).H * (surface g c).W))

unfoldable pub shift_with : Grid → ℕ → ℤ → ℤ → ℕ → Shift
shift_with g c n e r = outcome g.number c r (interpolated (surface g c) (north_of g n) (east_of g e))

unfoldable pub record_shift : Grid → ℕ → ℤ → ℤ → Shift
record_shift g c n e = shift_with g c n e (record_shift_refusal g c n e)

unfoldable pub message_shift : List ℕ → ℕ → ℤ → ℤ → Shift
message_shift s c n e = shift_with (grid_of (says (row s))) c n e (shift_refusal s c n e)

-- ---- one call for the three shifts: request A3, whose words are quoted

-- "a record of the three shifts as floats", "a refused part reading 0.0"
unfoldable pub float_of : Answer → Float
float_of (Seconds x) = x
float_of (Metres x) = x
float_of (Refused r) = of_int binary64 (pos 0)

-- "with their three counts and three numbers", each part with its second answer
unfoldable pub three_of : Shift → Shift → Shift → ThreeShifts
three_of n e h =
    record {
      north = float_of n.answer;
      east = float_of e.answer;
      height = float_of h.answer;
      parts = record { north = n; east = e; height = h };
    }

unfoldable pub message_shifts : List ℕ → ℤ → ℤ → ThreeShifts
message_shifts s n e = three_of (message_shift s 0 n e) (message_shift s 1 n e) (message_shift s 2 n e)
