-- What only promises between crates name.
-- Assumes nothing.
use Rattle.std.specs.Prelude.{Bool, not, cond, ◌&&◌, ℕ, ◌+◌, ◌-◌, ◌*◌, eqb, leb, ℤ, pos, nat_abs, ◌+ℤ◌, ◌*ℤ◌}
use Rattle.grid_bilinear.specs.Bilinear.{nearest_whole, weighted}
use Rattle.grid_direction.specs.Inner.{greatest_spacing}
use Rattle.grid_cell.specs.declared.Corners.{Corners}
use Rattle.grid_cell.specs.declared.Weights.{Weights}

-- the weighted sum of a cell's raw nodes, each raw number f counts
abbrev pub sum_of : ℕ → (h w y x : ℕ) → Corners → ℤ
sum_of f h w y x n = weighted h w y x (pos f *ℤ n.sw) (pos f *ℤ n.se) (pos f *ℤ n.nw) (pos f *ℤ n.ne)

-- a spacing that a grid has
abbrev pub spaced : ℕ → Bool
spaced d = not (eqb d 0) && leb d greatest_spacing

-- y and x steps from the south and west of a cell of height h and width w, on or within its edges
unfoldable pub place_held : (h w y x : ℕ) → Bool
place_held h w y x = spaced h && spaced w && leb y h && leb x w

-- raw nodes are int9
unfoldable pub nodes_held : Corners → Bool
nodes_held n = leb (nat_abs n.sw) 256 && leb (nat_abs n.se) 256 && leb (nat_abs n.nw) 256 && leb (nat_abs n.ne) 256

-- and a raw number of a node is at most 10 counts
unfoldable pub sum_held : ℕ → Corners → (h w y x : ℕ) → Bool
sum_held f n h w y x = place_held h w y x && leb f 10 && nodes_held n

-- the weighted sum, in counts times the cell's area; 0 of what no grid message can hold
unfoldable pub sum_in : ℕ → Corners → (h w y x : ℕ) → ℤ
sum_in f n h w y x = cond (sum_held f n h w y x) (sum_of f h w y x n) (pos 0)

-- ---- the count

-- the weights of a cell's nodes at a place y and x steps from its south and west, each times its area: "(W-x)(H-y), x(H-y), (W-x)y, xy over W·H"
abbrev pub weights_of : (h w y x : ℕ) → Weights
weights_of h w y x = record { sw = (w - x) * (h - y); se = x * (h - y); nw = (w - x) * y; ne = x * y }

-- 0 where no grid has such a place
unfoldable pub weights_in : (h w y x : ℕ) → Weights
weights_in h w y x = cond (place_held h w y x) (weights_of h w y x) (record { sw = 0; se = 0; nw = 0; ne = 0 })

-- the area to which they add up
abbrev pub area_of : Weights → ℕ
area_of k = k.sw + k.se + k.nw + k.ne

-- the weighted sum of nodes, and of raw nodes of f counts each
abbrev pub weighted_by : Weights → (sw se nw ne : ℤ) → ℤ
weighted_by k sw se nw ne = pos k.sw *ℤ sw +ℤ pos k.se *ℤ se +ℤ pos k.nw *ℤ nw +ℤ pos k.ne *ℤ ne

abbrev pub sum_by : ℕ → Weights → Corners → ℤ
sum_by f k n = weighted_by k (pos f *ℤ n.sw) (pos f *ℤ n.se) (pos f *ℤ n.nw) (pos f *ℤ n.ne)

-- the weights of a cell add up to at most the square of the greatest spacing
unfoldable pub weights_held : Weights → Bool
weights_held k = not (eqb (area_of k) 0) && leb (area_of k) 1676902500000000

-- and a mean is at most a raw 16,384 (int15) of 100 counts
unfoldable pub in_bounds : ℤ → ℕ → Corners → Weights → Bool
in_bounds mean f n k = weights_held k && leb f 10 && leb (nat_abs mean) 1638400 && nodes_held n

-- "the mean shift plus the whole number nearest to the exact weighted mean", in counts; 0 of what no grid message can hold
unfoldable pub count_by : ℤ → ℕ → Corners → Weights → ℤ
count_by mean f n k = cond (in_bounds mean f n k) (mean +ℤ nearest_whole (sum_by f k n) (area_of k)) (pos 0)
