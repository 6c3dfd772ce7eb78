-- What a grid message can hold: the tests, what they say, and the two definitions where they hold.
-- Assumes nothing.
use mathlib.Core.Path.{◌≡◌, refl, ap, ◌∙◌}
use mathlib.Core.Bool.{Bool, true, false, not, ◌&&◌}
use Prim.Native.Nat.{ℕ, zero, suc, ◌*◌, ◌≤◌, ◌<◌}
use native.Mathlib.Omega.{arith}
use borrow.Author.Tests.{eqb-false, leb-true, not-true, le-leb, ne_eqb}
use lib.Dec.{eqb, leb}
use lib.IntN.{ℤ, pos, nat_abs, ◌+ℤ◌}
use Rattle.arith.proofs.Tests.{both_first, both-second}
use Rattle.grid_bilinear.specs.Bilinear.{nearest_whole, weighted}
use Rattle.grid_direction.specs.Inner.{greatest_spacing}
use Rattle.grid_cell.specs.Inner.{weights_of, weights_in, area_of, sum_by, sum_of, spaced, place_held, nodes_held, sum_held, sum_in, weights_held, in_bounds, count_by}
use Rattle.grid_cell.specs.Private.{Within, Weighed, Most}
use Rattle.grid_cell.specs.declared.Corners.{Corners}
use Rattle.grid_cell.specs.declared.Weights.{Weights}
use Rattle.grid_cell.proofs.Sum.{whole, weighed}

-- ---- in a cell

pub four : (a b c d : Bool) → (a && b && c && d) ≡ true → (a ≡ true) × (b ≡ true) × (c ≡ true) × (d ≡ true)
four a b c d h =
    let p = both_first (a && b && c) d h in
    let q = both_first (a && b) c p in
    (both_first a b q, both-second a b q, both-second (a && b) c p, both-second (a && b && c) d h)

spaced-says : (d : ℕ) → spaced d ≡ true → (0 < d) × (d ≤ greatest_spacing)
spaced-says d h =
    let some = eqb-false d 0 (not-true (eqb d 0) (both_first (not (eqb d 0)) (leb d greatest_spacing) h)) in
    (above_zero d some, leb-true d greatest_spacing (both-second (not (eqb d 0)) (leb d greatest_spacing) h))
  where
    above_zero : (d : ℕ) → (d ≡ 0 → ⊥) → 0 < d
    above_zero zero n = absurd (n refl)
    above_zero (suc d) n = omega arith

pub within_of : {h w y x : ℕ} → place_held h w y x ≡ true → Within h w y x
unfolding place_held
within_of {h} {w} {y} {x} e =
    let p = four (spaced h) (spaced w) (leb y h) (leb x w) e in
    record { north = leb-true y h p.2; east = leb-true x w p.3; high = spaced-says h p.0; wide = spaced-says w p.1 }

pub most-of : {n : Corners} → nodes_held n ≡ true → Most 256 n
unfolding nodes_held
most-of {n} e =
    let p = four (leb (nat_abs n.sw) 256) (leb (nat_abs n.se) 256) (leb (nat_abs n.nw) 256) (leb (nat_abs n.ne) 256) e in
    record {
      sw = leb-true (nat_abs n.sw) 256 p.0;
      se = leb-true (nat_abs n.se) 256 p.1;
      nw = leb-true (nat_abs n.nw) 256 p.2;
      ne = leb-true (nat_abs n.ne) 256 p.3;
    }

-- what is summed
module _ (f : ℕ) (n : Corners) (h w y x : ℕ) where
  pub held-says : sum_held f n h w y x ≡ true → Within h w y x × Most 256 n × (f ≤ 10)
  unfolding sum_held
  held-says e =
      let p = both_first (place_held h w y x && leb f 10) (nodes_held n) e in (
        within_of (both_first (place_held h w y x) (leb f 10) p),
        most-of (both-second (place_held h w y x && leb f 10) (nodes_held n) e),
        leb-true f 10 (both-second (place_held h w y x) (leb f 10) p),
      )

  pub says-held : Within h w y x → Most 256 n → f ≤ 10 → sum_held f n h w y x ≡ true
  unfolding sum_held place_held nodes_held
  says-held p m b =
      rw (
        ne_eqb h 0 (λ e. absurd (omega (arith, p.high.0))),
        le-leb h greatest_spacing p.high.1,
        ne_eqb w 0 (λ e. absurd (omega (arith, p.wide.0))),
        le-leb w greatest_spacing p.wide.1,
        le-leb y h p.north,
        le-leb x w p.east,
        le-leb f 10 b,
        le-leb (nat_abs n.sw) 256 m.sw,
        le-leb (nat_abs n.se) 256 m.se,
        le-leb (nat_abs n.nw) 256 m.nw,
        le-leb (nat_abs n.ne) 256 m.ne,
      )

  pub sum-held : sum_held f n h w y x ≡ true → sum_of f h w y x n ≡ sum_in f n h w y x
  unfolding sum_in
  sum-held e = rw e

  pub sum-none : sum_held f n h w y x ≡ false → pos 0 ≡ sum_in f n h w y x
  unfolding sum_in
  sum-none e = rw e

pub weighed-of : (k : Weights) → weights_held k ≡ true → Weighed k
unfolding weights_held
weighed-of k h =
    let some = eqb-false (area_of k) 0 (not-true (eqb (area_of k) 0) (both_first (not (eqb (area_of k) 0)) (leb (area_of k) 1676902500000000) h)) in
    record { some = above (area_of k) some; most = leb-true (area_of k) 1676902500000000 (both-second (not (eqb (area_of k) 0)) (leb (area_of k) 1676902500000000) h) }
  where
    above : (d : ℕ) → (d ≡ 0 → ⊥) → 0 < d
    above zero n = absurd (n refl)
    above (suc d) n = omega arith

-- the count
module _ (mean : ℤ) (f : ℕ) (n : Corners) (k : Weights) where
  pub bounds-say : in_bounds mean f n k ≡ true → Weighed k × Most 256 n × (nat_abs mean ≤ 1638400) × (f ≤ 10)
  unfolding in_bounds
  bounds-say e =
      let p = four (weights_held k) (leb f 10) (leb (nat_abs mean) 1638400) (nodes_held n) e in
      (weighed-of k p.0, most-of p.3, leb-true (nat_abs mean) 1638400 p.2, leb-true f 10 p.1)

  pub count_held : in_bounds mean f n k ≡ true → mean +ℤ nearest_whole (sum_by f k n) (area_of k) ≡ count_by mean f n k
  unfolding count_by
  count_held e = rw e

  pub count_none : in_bounds mean f n k ≡ false → pos 0 ≡ count_by mean f n k
  unfolding count_by
  count_none e = rw e

  -- what a caller shows
  pub count-by-is : Weighed k → Most 256 n → nat_abs mean ≤ 1638400 → f ≤ 10 → count_by mean f n k ≡ mean +ℤ nearest_whole (sum_by f k n) (area_of k)
  unfolding count_by in_bounds weights_held nodes_held
  count-by-is p m a b =
      rw (
        ne_eqb (area_of k) 0 (λ e. absurd (omega (arith, p.some, e))),
        le-leb (area_of k) 1676902500000000 p.most,
        le-leb f 10 b,
        le-leb (nat_abs mean) 1638400 a,
        le-leb (nat_abs n.sw) 256 m.sw,
        le-leb (nat_abs n.se) 256 m.se,
        le-leb (nat_abs n.nw) 256 m.nw,
        le-leb (nat_abs n.ne) 256 m.ne,
      )

-- the weights at a place of a cell, and the count by them
module _ {h w y x : ℕ} (p : Within h w y x) where
  pub weights-in-is : weights_in h w y x ≡ weights_of h w y x
  unfolding weights_in place_held
  weights-in-is =
      rw (
        ne_eqb h 0 (λ e. absurd (omega (arith, p.high.0))),
        le-leb h greatest_spacing p.high.1,
        ne_eqb w 0 (λ e. absurd (omega (arith, p.wide.0))),
        le-leb w greatest_spacing p.wide.1,
        le-leb y h p.north,
        le-leb x w p.east,
      )

  pub count-at-is : (mean : ℤ) (f : ℕ) (n : Corners) → Most 256 n → nat_abs mean ≤ 1638400 → f ≤ 10
      → count_by mean f n (weights_of h w y x) ≡ mean +ℤ nearest_whole (sum_of f h w y x n) (h * w)
  unfolding weighted
  count-at-is mean f n m a b = count-by-is mean f n (weights_of h w y x) (weighed p) m a b ∙ ap (λ (d : ℕ). mean +ℤ nearest_whole (sum_of f h w y x n) d) (whole p)
