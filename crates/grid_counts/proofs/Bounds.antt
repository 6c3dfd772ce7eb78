-- A count is bounded, whatever it is formed of: a mean of at most 1,638,400, and at most 2,560 of the nodes.
-- Assumes nothing.
use Rattle.std.proofs.Common.{Option}
use mathlib.Core.Path.{◌≡◌, refl}
use mathlib.Core.Bool.{Bool, true, false, cond, ◌&&◌}
use Prim.Native.Nat.{ℕ, ◌≤◌, ◌<◌, zero-le}
use native.Mathlib.Omega.{arith}
use borrow.Author.Tests.{leb-true, lt-leb}
use lib.Dec.{leb}
use lib.IntN.{ℤ, pos, nat_abs, ◌+ℤ◌, ◌*ℤ◌}
use Rattle.arith.proofs.Int.{abs-add}
use Rattle.layout.specs.Layout.{value_in}
use Rattle.grid_bilinear.specs.Bilinear.{nearest_whole}
use Rattle.grid_cell.specs.Inner.{area_of, sum_by, weights_held, nodes_held, in_bounds, count_by}
use Rattle.grid_cell.specs.declared.Corners.{Corners}
use Rattle.grid_cell.specs.declared.Weights.{Weights}
use Rattle.grid_cell.proofs.Held.{four, most-of, weighed-of, count_none}
use Rattle.grid_cell.proofs.Sum.{near-by-most}
use Rattle.grid_fields.specs.declared.Nodes.{Nodes}
use Rattle.grid_counts.specs.Counts.{node_factor, mean_factor, refused_with}
use Rattle.grid_counts.specs.Inner.{values_in, lacking, cell_count}

module _ (mean : ℤ) (f : ℕ) (n : Corners) (k : Weights) where
  within-most : in_bounds mean f n k ≡ true → nat_abs (mean +ℤ nearest_whole (sum_by f k n) (area_of k)) ≤ 10000000
  unfolding in_bounds
  within-most e =
      let p = four (weights_held k) (leb f 10) (leb (nat_abs mean) 1638400) (nodes_held n) e in
      omega (
        arith,
        abs-add mean (nearest_whole (sum_by f k n) (area_of k)),
        leb-true (nat_abs mean) 1638400 p.2,
        near-by-most k f n (leb-true f 10 p.1) (most-of p.3) (weighed-of k p.0).some,
      )

  one_or_zero : (b : Bool) (z : ℤ) → (b ≡ true → nat_abs z ≤ 10000000) → nat_abs (cond b z (pos 0)) ≤ 10000000
  one_or_zero true z h = h refl
  one_or_zero false z h = zero-le

  pub count_most : nat_abs (count_by mean f n k) ≤ 10000000
  unfolding count_by
  count_most = one_or_zero (in_bounds mean f n k) _ within-most

-- a mean in counts past the bound
third-not : (a b c d : Bool) → c ≡ false → (a && b && c && d) ≡ false
third-not a b c d e = rw e (by (a && b))
  where
    by : (x : Bool) → (x && false && d) ≡ false
    by true = refl
    by false = refl

pub past-none : (mean : ℤ) (f : ℕ) (n : Corners) (k : Weights) → 1638400 < nat_abs mean → pos 0 ≡ count_by mean f n k
unfolding in_bounds
past-none mean f n k h =
    count_none mean f n k (third-not (weights_held k) (leb f 10) (leb (nat_abs mean) 1638400) (nodes_held n) (lt-leb (nat_abs mean) 1638400 h))

one-most : (b : Bool) (z : ℤ) → nat_abs z ≤ 10000000 → nat_abs (cond b (refused_with 15) (record { refusal = 0; count = z })).count ≤ 10000000
one-most true z h = zero-le
one-most false z h = h

pub cell-most : (number : ℤ) (c : ℕ) (mean : Option ℤ) (n : Nodes) (k : Weights) → nat_abs (cell_count number c mean n k).count ≤ 10000000
unfolding cell_count
cell-most number c mean n k =
    one-most (lacking mean n k) _ (count_most (pos mean_factor *ℤ value_in mean) (node_factor number c) (values_in n) k)
