-- What the private functions ask for.
-- Assumes nothing.
use Rattle.std.specs.Prelude.{ℕ, ◌≤◌, ◌<◌, cond, ℤ, pos, neg_ℤ, nat_abs}
use Rattle.std.specs.Int.Signed.{lt_z}
use Rattle.grid_cell.specs.Inner.{area_of}
use Rattle.grid_cell.specs.declared.Corners.{Corners}
use Rattle.grid_cell.specs.declared.Weights.{Weights}

-- a place on or within the edges of a cell of height h and width w
pub record Within (h w y x : ℕ) : Type 0 where
  pub north : y ≤ h
  pub east : x ≤ w
  pub high : (0 < h) × (h ≤ 40950000)
  pub wide : (0 < w) × (w ≤ 40950000)

-- weights that add up to the area of a cell
pub record Weighed (k : Weights) : Type 0 where
  pub some : 0 < area_of k
  pub most : area_of k ≤ 1676902500000000

-- nodes of at most b
pub record Most (b : ℕ) (n : Corners) : Type 0 where
  pub sw : nat_abs n.sw ≤ b
  pub se : nat_abs n.se ≤ b
  pub nw : nat_abs n.nw ≤ b
  pub ne : nat_abs n.ne ≤ b

-- n, or its opposite where z is negative
abbrev pub with_sign : ℤ → ℕ → ℤ
with_sign z n = cond (lt_z z (pos 0)) (neg_ℤ (pos n)) (pos n)
