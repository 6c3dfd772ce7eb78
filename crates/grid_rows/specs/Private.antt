-- What the private functions ask for and answer.
-- Assumes nothing.
use Rattle.std.specs.Prelude.{◌≡◌, cond, List, ◌++◌, ℕ, ◌+◌, ◌-◌, ◌≤◌, ◌<◌, ◌*◌, leb, ℤ, pos, nat_abs, ◌+ℤ◌, ◌*ℤ◌, take, drop}
use Rattle.arith.specs.Lists.{up_to}
use Rattle.grid_cell.specs.Private.{Within, Most}
use Rattle.grid_cell.specs.declared.Corners.{Corners}
use Rattle.grid_place.specs.declared.Located.{Located}
use Rattle.record_grids.specs.declared.Settings.{Settings}
use Rattle.grid_shifts.specs.Shift.{message_shift}
use Rattle.grid_row_refusals.specs.ShiftRow.{east_at}
use Rattle.grid_row_refusals.specs.Inner.{places_in}
use Rattle.grid_row_refusals.specs.Private.{Ready}
use Rattle.grid_bilinear.specs.Bilinear.{nearest_whole}
use Rattle.grid_cell.specs.Inner.{sum_of}
use Rattle.grid_rows.specs.declared.increments.Quotient.{Quotient}

-- so many areas, and the rest
unfoldable pub number_of : ℕ → ℤ → ℕ → ℤ
number_of area whole rest = whole *ℤ pos area +ℤ pos rest

-- the same rounded: half an area or more counts as a whole one
unfoldable pub half_up : ℕ → ℤ → ℕ → ℤ
half_up area whole rest = cond (leb area (2 * rest)) (whole +ℤ pos 1) whole

-- the sum and what it grows by, added
pub record Next (area : ℕ) (p by r : Quotient) : Type 0 where
  pub rest : r.rest < area
  pub sum : number_of area r.whole r.rest ≡ number_of area p.whole p.rest +ℤ number_of area by.whole by.rest
  pub most : nat_abs r.whole ≤ nat_abs p.whole + nat_abs by.whole + 1

-- the count at place j of a run whose first sum is s, growing by t
unfoldable pub counts_from : ℤ → ℕ → ℤ → ℤ → ℕ → ℤ
counts_from mean area s t j = mean +ℤ nearest_whole (s +ℤ pos j *ℤ t) area

-- what filling by increments asks for
pub record Fillable (mean : ℤ) (p by : Quotient) (area n : ℕ) : Type 0 where
  pub rest : p.rest < area
  pub grows : by.rest < area
  pub whole : nat_abs p.whole ≤ 10000
  pub slope : nat_abs by.whole ≤ 10000
  pub level : nat_abs mean ≤ 10000000
  pub places : n ≤ 4096

-- a sum as parts
pub record Split (area : ℕ) (sum : ℤ) (p : Quotient) : Type 0 where
  pub rest : p.rest < area
  pub total : number_of area p.whole p.rest ≡ sum
  pub most : nat_abs p.whole ≤ 5121

-- a run of places in a cell of height h and width w, the first y steps from its southern and x from its western edge
pub record Run (mean : ℤ) (f h w y x step : ℕ) (n : Corners) (places : ℕ) : Type 0 where
  pub within : Within h w y x
  pub nodes : Most 256 n
  pub factor : f ≤ 10
  pub level : nat_abs mean ≤ 10000000
  pub some : 0 < places
  pub most : places ≤ 4096
  pub last : x + (places - 1) * step ≤ w

-- the count at its place j
unfoldable pub cell_counts : ℤ → ℕ → (h w y x step : ℕ) → Corners → ℕ → ℤ
cell_counts mean f h w y x step n j = mean +ℤ nearest_whole (sum_of f h w y (x + j * step) n) (h * w)

-- a place in its cell, with values that a grid message can hold
pub record Standing (m : ℤ) (n : Corners) (p : Located) : Type 0 where
  pub mean : nat_abs m ≤ 16384
  pub nodes : Most 256 n
  pub within : Within p.height p.width p.north p.east

-- the count of the single call at place k
abbrev pub count_at : List ℕ → ℕ → (n e step : ℤ) → ℕ → ℤ
count_at s c n e step k = (message_shift s c n (east_at e step k)).count

-- a row none of whose places is refused, and room for it
pub record Answered (s : List ℕ) (f : Settings) (c : ℕ) (n e : ℤ) (step count room : ℕ) : Type 0 where
  pub ready : Ready s f n e step count
  pub none : (k : ℕ) → k < count → (message_shift s c n (east_at e (pos step) k)).refusal ≡ 0
  pub enough : count ≤ room

-- a row of which the places i to r are filled
pub record Filled (f : ℕ → ℤ) (i count : ℕ) (before after : List ℤ) (r : ℕ) : Type 0 where
  pub some : i < r
  pub most : r ≤ count
  pub row : after ≡ take i before ++ (up_to (λ j. f (i + j)) (r - i) ++ drop r before)

-- "division only where a row begins or enters a new cell": the run from place i on, in the cell of p, ends where the cell does or the row
abbrev pub ToTheEdge : Located → (step i count r : ℕ) → Type 0
ToTheEdge p step i count r = r ≡ i + places_in (count - i) p.width p.east step
