-- What the private functions ask for and answer.
-- Assumes nothing.
use Rattle.std.specs.Prelude.{◌≡◌, Bool, false, List, ℕ, ◌+◌, ◌≤◌, ◌<◌, ℤ, pos, Option}
use Rattle.arith.specs.First.{first}
use Rattle.arith.specs.Lists.{up_to}
use Rattle.record_grids.specs.declared.Settings.{Settings}
use Rattle.record_grids.specs.Inner.{settings_at}
use Rattle.message_rows.specs.Message.{kind_refusal}
use Rattle.grid_cell.specs.Inner.{weights_of}
use Rattle.grid_fields.specs.Inner.{grid_says}
use Rattle.grid_fields.specs.declared.Nodes.{Nodes}
use Rattle.grid_refusals.specs.Refusals.{beyond}
use Rattle.grid_shifts.specs.Shift.{message_shift}
use Rattle.grid_counts.specs.Inner.{lacking}
use Rattle.grid_row_refusals.specs.ShiftRow.{east_at, refused_test}
use Rattle.grid_row_refusals.specs.declared.Run.{Run}

-- the mean, or a node with weight, is not available y and x steps from the south and west of a cell of height h and width w
abbrev pub lacking_at : Option ℤ → Nodes → (h w y x : ℕ) → Bool
lacking_at mean n h w y x = lacking mean n (weights_of h w y x)

-- a grid message and its settings, and places from e on, each a step further, none of them past the limits
pub record Ready (s : List ℕ) (f : Settings) (n e : ℤ) (step count : ℕ) : Type 0 where
  pub kind : kind_refusal 1023 1024 s ≡ 0
  pub settings : f ≡ settings_at (grid_says s)
  pub most : count ≤ 4096
  pub near : (k : ℕ) → k < count → beyond f.number n (east_at e (pos step) k) ≡ false

-- the refusal of the first refused of `places` places from place i on, or 0
unfoldable pub first_refused : List ℕ → ℕ → (n e step : ℤ) → (i places : ℕ) → ℕ
first_refused s c n e step i places = first (up_to (λ k. refused_test (message_shift s c n (east_at e step (i + k)))) places)

-- some of the `left` places from place i on, and their refusal
pub record Looked (s : List ℕ) (c : ℕ) (n e : ℤ) (step i left : ℕ) (r : Run) : Type 0 where
  pub some : 0 < r.places
  pub most : r.places ≤ left
  pub refusal : r.refusal ≡ first_refused s c n e (pos step) i r.places
