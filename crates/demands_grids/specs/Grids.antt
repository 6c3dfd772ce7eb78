-- The demands on the shift at a position, in document 01's words, as statements about message bytes and the real call's answers.
-- Assumes nothing.
use Rattle.std.specs.Prelude.{ℕ, suc, ◌+◌, ◌*◌, ◌-◌, ◌≤◌, ◌<◌, ◌≡◌, true, false, List, ◌⊎◌, T, eqb, ℤ, pos, neg_ℤ, nat_abs, ◌+ℤ◌, ◌-ℤ◌, ◌*ℤ◌, ◌≤ℤ◌, ◌<ℤ◌, Float}
use Rattle.std.specs.Float.{binary64}
use Rattle.std.specs.Float.Ieee.{whole, of_int, to_signed}
use Rattle.arith.specs.First.{first}
use Rattle.record_grids.specs.declared.Grid.{Grid}
use Rattle.record_grids.specs.declared.Shifts.{Shifts}
use Rattle.record_grids.specs.Grids.{grid_of, grid_row, settings_of}
use Rattle.record_rows.specs.Numbers.{says, values_of, present_of}
use Rattle.layout.specs.Layout.{value_in}
use Rattle.message_rows.specs.Message.{number_of, refusal, row, kind_write_refusal}
use Rattle.message_records.specs.Kinds.{read_grid, grid_held}
use Rattle.grid_bilinear.specs.Bilinear.{Surface, gap, from_edge, outside, cell, exact, LipschitzBound}
use Rattle.grid_shifts.specs.Shift.{node_of, surface, north_of, east_of, in_cell_shift, record_shift, message_shift, message_shifts}
use Rattle.grid_shifts.specs.declared.Answer.TheVariants.{Seconds, Metres}
use Rattle.grid_shifts.specs.declared.Shift.{Shift}
use Rattle.grid_shifts.specs.declared.ThreeShifts.{ThreeShifts}
use Rattle.grid_place.specs.Position.{steps_of}
use Rattle.grid_refusals.specs.Refusals.{field_tests}

-- the grid of a message, and one component of it
abbrev pub grid_at : List ℕ → Grid
grid_at s = grid_of (says (row s))

abbrev pub surface_at : List ℕ → ℕ → Surface
surface_at s c = surface (grid_at s) c

-- document 01's "answered": "where the number given is 0"
abbrev pub AnsweredAt : List ℕ → ℕ → ℤ → ℤ → Type 0
AnsweredAt s c n e = (message_shift s c n e).refusal ≡ 0

-- ---- demand 2: "a grid answer is the mean shift plus the whole number nearest to the exact weighted mean (halves away from zero)"

-- the place of a position: steps from the southern and from the western edge of the grid
abbrev pub north_steps : Grid → ℕ → ℤ → ℕ
north_steps g c n = nat_abs (from_edge (surface g c).H (north_of g n))

abbrev pub east_steps : Grid → ℕ → ℤ → ℕ
east_steps g c e = nat_abs (from_edge (surface g c).W (east_of g e))

-- the exact weighted mean at a position, times both spacings
abbrev pub exact_at : List ℕ → ℕ → ℤ → ℤ → ℤ
exact_at s c n e = exact (surface_at s c) (north_steps (grid_at s) c n) (east_steps (grid_at s) c e)

-- twice the distance of r from m / d, times d
abbrev pub twice_off : ℤ → ℕ → ℤ → ℕ
twice_off m d r = nat_abs (pos (2 * d) *ℤ r -ℤ pos 2 *ℤ m)

-- r is at most half a unit from m / d, and at a half it has the greater magnitude
pub record IsNearest (m : ℤ) (d : ℕ) (r : ℤ) : Type 0 where
  pub close : twice_off m d r ≤ d
  pub half : twice_off m d r ≡ d → nat_abs m ≤ d * nat_abs r

pub record MeanPlusNearest (s : List ℕ) (c : ℕ) (n e : ℤ) : Type 0 where
  pub area : 0 < (surface_at s c).H * (surface_at s c).W
  pub rounded : ℤ
  pub count : (message_shift s c n e).count ≡ (surface_at s c).mean +ℤ rounded
  pub nearest : IsNearest (exact_at s c n e) ((surface_at s c).H * (surface_at s c).W) rounded
  pub only : (r : ℤ) → IsNearest (exact_at s c n e) ((surface_at s c).H * (surface_at s c).W) r → r ≡ rounded

abbrev pub GridAnswer : Type 0
GridAnswer = (s : List ℕ) (c : ℕ) (n e : ℤ) → AnsweredAt s c n e → MeanPlusNearest s c n e

-- the cell k from the south and l from the west, its edges included, holds the position
pub record Holds (g : Grid) (c k l : ℕ) (n e : ℤ) : Type 0 where
  pub row : k ≤ 2
  pub column : l ≤ 2
  pub inside : (outside (surface g c).H (north_of g n) ≡ false) × (outside (surface g c).W (east_of g e) ≡ false)
  pub north : (k * (surface g c).H ≤ north_steps g c n) × (north_steps g c n ≤ suc k * (surface g c).H)
  pub east : (l * (surface g c).W ≤ east_steps g c e) × (east_steps g c e ≤ suc l * (surface g c).W)

-- "On a shared edge both cells must give the same answer or refusal": every cell that holds a position gives what the call answers
abbrev pub SharedEdges : Type 0
SharedEdges =
    (s : List ℕ) (c : ℕ) (n e : ℤ) → (read_grid s).refusal ≡ 0 → first (field_tests (settings_of (grid_at s)) c n e) ≡ 0
    → (k l : ℕ) → Holds (grid_at s) c k l n e → message_shift s c n e ≡ in_cell_shift (grid_at s) c k l (north_steps (grid_at s) c n) (east_steps (grid_at s) c e)

-- the call on the record that was read from a message answers as the call on the message
abbrev pub BothCalls : Type 0
BothCalls = (s : List ℕ) (c : ℕ) (n e : ℤ) → (read_grid s).refusal ≡ 0 → record_shift (read_grid s).value c n e ≡ message_shift s c n e

-- a grid record is one that a message holds, and so not RANGE, exactly where the writer with room for it refuses nothing
abbrev pub HeldIsWritten : Type 0
HeldIsWritten = (g : Grid) (m : ℕ) → 74 ≤ m → grid_held g ≡ eqb (kind_write_refusal 1023 1024 true (values_of (grid_row g)) (present_of (grid_row g)) m) 0

-- the grid with other nodes
abbrev pub with_nodes : Grid → List Shifts → Grid
with_nodes g ns =
    record {
      number = g.number;
      sin = g.sin;
      indicators = g.indicators;
      origin = g.origin;
      spacing = g.spacing;
      mean = g.mean;
      nodes = ns;
      methods = g.methods;
      quality = g.quality;
      day = g.day;
    }

-- the nodes ns are those of g, but for nodes that have no weight b steps north and a steps east of the corner of the cell k from the south and l from the west
pub record SameWeighted (g : Grid) (ns : List Shifts) (c k l b a : ℕ) : Type 0 where
  pub sw : (((surface g c).W - a) * ((surface g c).H - b) ≡ 0) ⊎ (node_of g.nodes c (3 - k) l ≡ node_of ns c (3 - k) l)
  pub se : (a * ((surface g c).H - b) ≡ 0) ⊎ (node_of g.nodes c (3 - k) (l + 1) ≡ node_of ns c (3 - k) (l + 1))
  pub nw : (((surface g c).W - a) * b ≡ 0) ⊎ (node_of g.nodes c (2 - k) l ≡ node_of ns c (2 - k) l)
  pub ne : (a * b ≡ 0) ⊎ (node_of g.nodes c (2 - k) (l + 1) ≡ node_of ns c (2 - k) (l + 1))

-- only "a node of non-zero weight" is asked for: other nodes may be anything that a message holds
abbrev pub OnlyWeighted : Type 0
OnlyWeighted =
    (g : Grid) (ns : List Shifts) (c : ℕ) (n e : ℤ) → grid_held g ≡ grid_held (with_nodes g ns)
    → SameWeighted g ns c (cell (surface g c).H (north_steps g c n)) (cell (surface g c).W (east_steps g c e))
    (north_steps g c n - cell (surface g c).H (north_steps g c n) * (surface g c).H)
    (east_steps g c e - cell (surface g c).W (east_steps g c e) * (surface g c).W)
    → record_shift g c n e ≡ record_shift (with_nodes g ns) c n e

-- "the count, made an f64 without loss": the float of an answered count is a whole number, and that count
pub record NothingLost (z : ℤ) : Type 0 where
  pub whole : T (whole binary64 (of_int binary64 z))
  pub same : to_signed 63 (of_int binary64 z) ≡ z

abbrev pub Lossless : Type 0
Lossless = (s : List ℕ) (c : ℕ) (n e : ℤ) → AnsweredAt s c n e → NothingLost (message_shift s c n e).count

-- "twice the sum stays below 8.6 × 10^18"
abbrev pub SumBound : Type 0
SumBound = (s : List ℕ) (c : ℕ) (n e : ℤ) → AnsweredAt s c n e → 2 * nat_abs (exact_at s c n e) < 8600000000000000000

-- ---- demand 3

-- "all sixteen nodes present": each has a value
abbrev pub AllPresent : List ℕ → ℕ → Type 0
AllPresent s c = (i j : ℕ) → i < 4 → j < 4 → (surface_at s c).present i j ≡ true

-- "steps between positions are taken without sign"; "the steps east in demand 3 are read between these differences"
abbrev pub steps_north : ℤ → ℤ → ℕ
steps_north a b = gap a b

abbrev pub steps_east : List ℕ → ℤ → ℤ → ℕ
steps_east s a b = gap (east_of (grid_at s) a) (east_of (grid_at s) b)

-- "It is one claim about any two positions"
abbrev pub Lipschitz : Type 0
Lipschitz =
    (s : List ℕ) (c : ℕ) → AllPresent s c → (n₁ e₁ n₂ e₂ : ℤ) → AnsweredAt s c n₁ e₁ → AnsweredAt s c n₂ e₂
    → LipschitzBound (surface_at s c) (message_shift s c n₁ e₁).count (message_shift s c n₂ e₂).count (steps_north n₁ n₂) (steps_east s e₁ e₂)

-- "1024 is as before": its steps east are those between the positions
abbrev pub PlainSteps : Type 0
PlainSteps = (s : List ℕ) (a b : ℤ) → refusal s ≡ 0 → number_of s ≡ 1024 → steps_east s a b ≡ gap a b

-- the bound of two answers a and b of a component
abbrev pub BoundBetween : List ℕ → ℕ → (a b : Shift) → (n₁ e₁ n₂ e₂ : ℤ) → Type 0
BoundBetween s c a b n₁ e₁ n₂ e₂ =
    AllPresent s c → a.refusal ≡ 0 → b.refusal ≡ 0 → LipschitzBound (surface_at s c) a.count b.count (steps_north n₁ n₂) (steps_east s e₁ e₂)

-- ---- one call for the three shifts (request A3)

-- x is the float of one part: that of its second answer, "a refused part reading 0.0"
pub record ReadsAs (x : Float) (p : Shift) : Type 0 where
  pub refused : (p.refusal ≡ 0 → ⊥) → x ≡ of_int binary64 (pos 0)
  pub seconds : (y : Float) → p.answer ≡ Seconds y → x ≡ y
  pub metres : (y : Float) → p.answer ≡ Metres y → x ≡ y

-- "Each part is exactly what the single call gave"
pub record Merged (r : ThreeShifts) (n e h : Shift) : Type 0 where
  pub parts : (r.parts.north ≡ n) × (r.parts.east ≡ e) × (r.parts.height ≡ h)
  pub north : ReadsAs r.north n
  pub east : ReadsAs r.east e
  pub height : ReadsAs r.height h

abbrev pub ThreeParts : Type 0
ThreeParts = (s : List ℕ) (n e : ℤ) → Merged (message_shifts s n e) (message_shift s 0 n e) (message_shift s 1 n e) (message_shift s 2 n e)

-- "COMPONENT is no longer given here"
pub record NoComponent (r : ThreeShifts) : Type 0 where
  pub north : r.parts.north.refusal ≡ 8 → ⊥
  pub east : r.parts.east.refusal ≡ 8 → ⊥
  pub height : r.parts.height.refusal ≡ 8 → ⊥

abbrev pub ComponentNeverGiven : Type 0
ComponentNeverGiven = (s : List ℕ) (n e : ℤ) → NoComponent (message_shifts s n e)

-- ---- the difference east of 1023, across the antimeridian

-- "rover minus origin", as plain numbers
abbrev pub plain_east : Grid → ℤ → ℤ
plain_east g e = e -ℤ pos (steps_of g.number) *ℤ value_in g.origin.east

-- r is z "brought by whole turns of 12,960,000,000 steps to at least -6,480,000,000 and less than 6,480,000,000"
pub record Turned (z r : ℤ) : Type 0 where
  pub turns : ℤ
  pub same : r ≡ z +ℤ turns *ℤ pos 12960000000
  pub low : neg_ℤ (pos 6480000000) ≤ℤ r
  pub high : r <ℤ pos 6480000000

-- the difference that is used is that number, and there is only one
pub record OneTurn (g : Grid) (e : ℤ) : Type 0 where
  pub turned : Turned (plain_east g e) (east_of g e)
  pub only : (r : ℤ) → Turned (plain_east g e) r → r ≡ east_of g e

abbrev pub EastTurned : Type 0
EastTurned = (g : Grid) (e : ℤ) → g.number ≡ pos 1023 → OneTurn g e

-- "Longitudes -180° and +180° then get the same answer": of every message that is not a 1024, refusals too
abbrev pub BothLongitudes : Type 0
BothLongitudes = (s : List ℕ) (c : ℕ) (n : ℤ) → (number_of s ≡ 1024 → ⊥) → message_shift s c n (pos 6480000000) ≡ message_shift s c n (neg_ℤ (pos 6480000000))
