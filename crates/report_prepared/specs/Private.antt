-- What private functions ask: `around` of a place, and those of report_points of prepared numbers and how these serve.
-- Assumes nothing.
use Rattle.std.specs.Prelude.{◌≡◌, Bool, ◌&&◌, eqb, List, ℕ, ◌+◌, ◌-◌, ◌*◌, ◌≤◌, ◌<◌, ℤ, nat_abs, ◌-ℤ◌, ◌≤ℤ◌}
use Rattle.arith.specs.Lists.{at}
use Rattle.grid_bilinear.specs.Bilinear.{cell}
use Rattle.grid_cell.specs.Inner.{weights_in, count_by}
use Rattle.grid_cell.specs.declared.Corners.{Corners}
use Rattle.grid_place.specs.declared.Located.{Located}
use Rattle.grid_component.specs.Inner.{counted_by}
use Rattle.grid_component.specs.declared.Kept.{Kept}
use Rattle.report_prepared.specs.declared.Prepared.{Prepared}
use Rattle.report_prepared.specs.Inner.{refusal_at}

-- ---- the edges

-- a position within the limits, and its place in a cell
pub record Near (q : Located) (n e : ℤ) : Type 0 where
  pub north : nat_abs n ≤ 1000000000000
  pub east : nat_abs e ≤ 1000000000000
  pub cell : (q.row ≤ 2) × (q.column ≤ 2)
  pub steps : (q.north ≤ q.height) × (q.east ≤ q.width)
  pub sizes : (q.height ≤ 40950000) × (q.width ≤ 40950000)

-- the south-western and the north-eastern corner are within document 01's limits
abbrev pub corners_held : ℤ → ℕ → Prepared → Bool
corners_held number c p = eqb (refusal_at number c p.south p.west) 0 && eqb (refusal_at number c p.north p.east) 0

-- a position on or between edges
pub record Between (p : Prepared) (n e : ℤ) : Type 0 where
  pub south : p.south ≤ℤ n
  pub north : n ≤ℤ p.north
  pub west : p.west ≤ℤ e
  pub east : e ≤ℤ p.east

-- ---- the count

-- the nodes of the cell k from the south and l from the west
abbrev pub corners_of : List ℤ → (k l : ℕ) → Corners
corners_of v k l =
    record { sw = at v (4 * (3 - k) + l); se = at v (4 * (3 - k) + (l + 1)); nw = at v (4 * (2 - k) + l); ne = at v (4 * (2 - k) + (l + 1)) }

-- at a place y and x steps from the southern and the western edge
unfoldable pub count_in : Prepared → List ℤ → (y x : ℕ) → ℤ
count_in p nodes y x =
    let h = p.height in
    let w = p.width in
    count_by p.mean p.factor (corners_of nodes (cell h y) (cell w x)) (weights_in h w (y - cell h y * h) (x - cell w x * w))

-- what the numbers say of a position on or between the edges
pub record CountBetween (s : List ℕ) (kept : Kept) (c : ℕ) (p : Prepared) (nodes : List ℤ) (n e : ℤ) : Type 0 where
  pub high : (0 < p.height) × (p.height ≤ 40950000)
  pub wide : (0 < p.width) × (p.width ≤ 40950000)
  pub rows : nat_abs (n -ℤ p.south) ≤ 3 * p.height
  pub columns : nat_abs (e -ℤ p.west) ≤ 3 * p.width
  pub count : counted_by s kept c n e ≡ record { refusal = 0; count = count_in p nodes (nat_abs (n -ℤ p.south)) (nat_abs (e -ℤ p.west)) }

abbrev pub Serves : List ℕ → Kept → ℕ → Prepared → List ℤ → Type 0
Serves s kept c p nodes = (n e : ℤ) → Between p n e → CountBetween s kept c p nodes n e
