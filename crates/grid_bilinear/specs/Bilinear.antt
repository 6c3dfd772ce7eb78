-- Bilinear interpolation of one component over sixteen nodes: document 01, "The grid", whose words are quoted.
-- Positions and spacings are whole steps, nodes and answers are counts (document 01's terms).
-- Assumes nothing.
use Rattle.std.specs.Prelude.{Bool, not, ◌&&◌, ◌||◌, ℕ, zero, suc, ◌+◌, ◌*◌, ◌-◌, ◌/◌, ◌≤◌, min, max, eqb, ℤ, pos, negsuc, neg_ℤ, nat_abs, ◌+ℤ◌, ◌-ℤ◌, ◌*ℤ◌}
use Rattle.std.specs.Int.Signed.{lt_z}

-- ---- whole numbers

-- "taken without sign": |a - b|
unfoldable pub gap : ℤ → ℤ → ℕ
gap a b = nat_abs (a -ℤ b)

-- the whole number nearest to s / d, "halves away from zero"
unfoldable pub nearest_whole : ℤ → ℕ → ℤ
nearest_whole (pos s) d = pos ((2 * s + d) / (2 * d))
nearest_whole (negsuc s) d = neg_ℤ (pos ((2 * suc s + d) / (2 * d)))

-- the greatest of f 0, .., f (n - 1)
unfoldable pub greatest : ℕ → (ℕ → ℕ) → ℕ
greatest zero f = 0
greatest (suc n) f = max (greatest n f) (f n)

-- ---- one component of a grid

pub record Surface : Type 0 where
  -- the spacing of neighbouring rows and of neighbouring columns
  pub H : ℕ
  pub W : ℕ
  -- the mean shift
  pub mean : ℤ
  -- the node of row 0 to 3, "the northern row first", and column 0 to 3, "west to east"
  pub node : ℕ → ℕ → ℤ
  -- present is document 01's term: "A node is present where its field in the message is not the 'not available' pattern"
  pub present : ℕ → ℕ → Bool
  pub mean_present : Bool

-- ---- where a position stands, along one direction: u is the difference position minus origin, d the spacing

-- "Rows and columns stand at the origin plus and minus a half and three halves of the spacing": the steps from the southern or western edge.
-- Spacings are even
unfoldable pub from_edge : ℕ → ℤ → ℤ
from_edge d u = u +ℤ pos (3 * (d / 2))

-- not inside, which is document 01's term: "Inside means on or within the outer rectangle"
unfoldable pub outside : ℕ → ℤ → Bool
outside d u = lt_z (from_edge d u) (pos 0) || lt_z (pos (3 * d)) (from_edge d u)

-- the cell of a place t steps from the edge, 0 to 2 from the south or west: the last holds the far edge too
unfoldable pub cell : ℕ → ℕ → ℕ
cell d t = min 2 (t / d)

-- ---- the exact weighted mean, times W · H

-- "the weights are (W-x)(H-y), x(H-y), (W-x)y, xy over W·H for the south-west, south-east, north-west and north-east nodes"
unfoldable pub weighted : (H W y x : ℕ) (sw se nw ne : ℤ) → ℤ
weighted H W y x sw se nw ne =
    pos ((W - x) * (H - y)) *ℤ sw +ℤ pos (x * (H - y)) *ℤ se +ℤ pos ((W - x) * y) *ℤ nw +ℤ pos (x * y) *ℤ ne

-- in cell k from the south and l from the west, at y steps from the southern and x from the western edge of the grid
unfoldable pub in_cell : Surface → (k l y x : ℕ) → ℤ
in_cell g k l y x =
    weighted g.H g.W (y - k * g.H) (x - l * g.W)
    (g.node (3 - k) l)
    (g.node (3 - k) (l + 1))
    (g.node (2 - k) l)
    (g.node (2 - k) (l + 1))

unfoldable pub exact : Surface → ℕ → ℕ → ℤ
exact g y x = in_cell g (cell g.H y) (cell g.W x) y x

-- "the mean shift plus the whole number nearest to the exact weighted mean", at the differences u north and v east of the origin
unfoldable pub interpolated : Surface → ℤ → ℤ → ℤ
interpolated g u v = g.mean +ℤ nearest_whole (exact g (nat_abs (from_edge g.H u)) (nat_abs (from_edge g.W v))) (g.H * g.W)

-- ---- what is not available

-- a node that has weight and is not present
unfoldable pub lacks : ℕ → Bool → Bool
lacks weight present = not (eqb weight 0) && not present

unfoldable pub absent_in : Surface → (k l y x : ℕ) → Bool
absent_in g k l y x =
    let h = g.H in
    let w = g.W in
    let b = y - k * h in
    let a = x - l * w in
    not g.mean_present
    || lacks ((w - a) * (h - b)) (g.present (3 - k) l)
    || lacks (a * (h - b)) (g.present (3 - k) (l + 1))
    || lacks ((w - a) * b) (g.present (2 - k) l)
    || lacks (a * b) (g.present (2 - k) (l + 1))

-- "the mean, or a node of non-zero weight, is not available"
unfoldable pub absent : Surface → ℤ → ℤ → Bool
absent g u v =
    let y = nat_abs (from_edge g.H u) in
    let x = nat_abs (from_edge g.W v) in
    absent_in g (cell g.H y) (cell g.W x) y x

-- ---- demand 3: "Neighbours in a column, or in a row, have no node between them; the greatest difference is over all four columns, or all four rows"

unfoldable pub column_difference : Surface → ℕ
column_difference g = greatest 4 (λ j. greatest 3 (λ i. gap (g.node i j) (g.node (i + 1) j)))

unfoldable pub row_difference : Surface → ℕ
row_difference g = greatest 4 (λ i. greatest 3 (λ j. gap (g.node i j) (g.node i (j + 1))))

-- of two answers a and b whose positions are so many steps north and east apart: "the difference of the answers times both spacings is at most the product of the spacings,
-- plus steps north times greatest column difference times east spacing, plus steps east times greatest row difference times north spacing"
abbrev pub LipschitzBound : Surface → (a b : ℤ) (north east : ℕ) → Type 0
LipschitzBound g a b north east =
    gap a b * (g.H * g.W)
    ≤ g.H * g.W
    + north * column_difference g * g.W
    + east * row_difference g * g.H
