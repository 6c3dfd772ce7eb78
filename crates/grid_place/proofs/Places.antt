-- From tests to a place in the grid: what the tests on the fields say, and the place that is answered.
-- Assumes nothing.
use mathlib.Core.Path.{◌≡◌, refl, sym, ap, ◌∙◌, subst}
use mathlib.Core.Bool.{Bool, true, false, not, cond, ◌||◌}
use mathlib.Core.List.{List, [], ◌∷◌}
use Prim.Native.Nat.{ℕ, zero, suc, ◌*◌, ◌-◌, ◌≤◌, ◌<◌}
use native.Mathlib.Nat.{mul-pos, mul-le-mul}
use native.Mathlib.Omega.{arith}
use borrow.Author.Tests.{eq-eqb, ne_eqb, ltb-false}
use lib.Dec.{eqb, ltb}
use lib.IntN.{ℤ, pos, negsuc, neg_ℤ, nat_abs, ◌-ℤ◌, ◌*ℤ◌}
use Rattle.arith.specs.First.{Test, first}
use Rattle.arith.specs.Whole.{natural, same_z}
use Rattle.arith.proofs.First.{passed, or-false, stops, goes_on, passes}
use Rattle.arith.proofs.Int.{abs-add, abs_neg, abs-mul}
use Rattle.arith.proofs.Tests.{false-ne-true}
use Rattle.record_grids.specs.declared.Settings.{Settings}
use Rattle.grid_refusals.specs.Refusals.{ellipsoidal, side, origin_available, beyond, field_tests}
use Rattle.grid_bilinear.specs.Bilinear.{from_edge, outside}
use Rattle.grid_bilinear.proofs.Place.{steps-most, cell-le, cell-from, cell-upto}
use Rattle.grid_direction.specs.Inner.{along_of}
use Rattle.grid_cell.specs.Private.{Within}
use Rattle.grid_direction.specs.declared.PlaceAlong.{PlaceAlong}
use Rattle.grid_direction.proofs.Placed.{along-steps, along-cell}
use Rattle.grid_place.specs.Position.{steps_of, height_of, width_of, north_from, east_from, place_tests}
use Rattle.grid_place.specs.Inner.{no_place, place_of, located}
use Rattle.grid_place.specs.Private.{Fields}
use Rattle.grid_place.specs.declared.Located.{Located}

-- ---- what the tests on the fields say

pub record Early (f : Settings) (n e : ℤ) : Type 0 where
  pub north : nat_abs n ≤ 1000000000000
  pub east : nat_abs e ≤ 1000000000000
  pub turn : ellipsoidal f.number ≡ true → nat_abs e ≤ 6480000000
  pub rows : same_z f.spacing.north (pos 0) ≡ false
  pub columns : same_z f.spacing.east (pos 0) ≡ false

not_beyond : (b : Bool) (n e : ℕ) → cond b (ltb 3240000000 n || ltb 6480000000 e) (ltb 1000000000000 n || ltb 1000000000000 e) ≡ false →
    (n ≤ 1000000000000) × (e ≤ 1000000000000) × (b ≡ true → e ≤ 6480000000)
not_beyond true n e h =
    let t = or-false (ltb 3240000000 n) (ltb 6480000000 e) h in
    let k = ltb-false 6480000000 e t.1 in
    (omega (arith, ltb-false 3240000000 n t.0), omega (arith, k), λ _. k)
not_beyond false n e h =
    let t = or-false (ltb 1000000000000 n) (ltb 1000000000000 e) h in
    (ltb-false 1000000000000 n t.0, ltb-false 1000000000000 e t.1, λ t. absurd (false-ne-true t))

two-of : (a b c d f h : Bool) → first ((8, a) ∷ (9, b) ∷ (10, c) ∷ (11, d) ∷ (12, f) ∷ (13, h) ∷ []) ≡ 0 → (b ≡ false) × (h ≡ false)
two-of a b c d f h e =
    let p = passed 8 b _ (passed 7 a _ e).1 in
    let q = passed 11 f _ (passed 10 d _ (passed 9 c _ p.1).1).1 in
    (p.0, (passed 12 h _ q.1).0)

pub early : (f : Settings) (c : ℕ) (n e : ℤ) → first (field_tests f c n e) ≡ 0 → Early f n e
early f c n e h =
    let p =
    two-of (ltb 2 c) (beyond f.number n e) (same_z (side c f.indicators) (pos 0)) (not (same_z (side c f.methods) (pos 0)))
    (not (origin_available f.origin)) (same_z f.spacing.north (pos 0) || same_z f.spacing.east (pos 0)) h in
    let far = not_beyond (ellipsoidal f.number) (nat_abs n) (nat_abs e) p.0 in
    let some = or-false (same_z f.spacing.north (pos 0)) (same_z f.spacing.east (pos 0)) p.1 in
    record { north = far.0; east = far.1; turn = far.2; rows = some.0; columns = some.1 }

above_zero : (z : ℤ) → z ≡ pos (natural z) → same_z z (pos 0) ≡ false → 0 < natural z
unfolding same_z
above_zero (pos zero) e h = absurd (false-ne-true (sym h))
above_zero (pos (suc n)) e h = omega arith
above_zero (negsuc n) e h = let z : ◌≡◌ {A = ℕ} 0 1 = cc in absurd (omega arith)

pub steps-some : (number : ℤ) → (0 < steps_of number) × (steps_of number ≤ 10000)
steps-some number = by (same_z number (pos 1023))
  where
    by : (b : Bool) → (0 < cond b 5000 10000) × (cond b 5000 10000 ≤ 10000)
    by true = (omega arith, omega arith)
    by false = (omega arith, omega arith)

-- a height or width that a grid has
abbrev pub Spaced : ℕ → Type 0
Spaced d = (0 < d) × (d ≤ 40950000)

pub spacings : (f : Settings) (n e : ℤ) → Fields f → Early f n e → Spaced (height_of f) × Spaced (width_of f)
spacings f n e k p =
    let u = steps-some f.number in (
      (mul-pos (above_zero f.spacing.north k.rows.0 p.rows) u.0, mul-le-mul k.rows.1 u.1),
      (mul-pos (above_zero f.spacing.east k.columns.0 p.columns) u.0, mul-le-mul k.columns.1 u.1),
    )

-- two longitudes are at most a turn apart
pub turn-most : (number e o : ℤ) → ellipsoidal number ≡ true → nat_abs e ≤ 6480000000 → nat_abs o ≤ 1296000 → nat_abs (e -ℤ pos (steps_of number) *ℤ o) ≤ 12960000000
turn-most number e o t h k =
    rw t (omega (arith, abs-add e (neg_ℤ (pos 5000 *ℤ o)), abs_neg (pos 5000 *ℤ o), abs-mul (pos 5000) o))

-- ---- a place along one direction

module _ (d : ℕ) (u : ℤ) (s : Spaced d) (h : outside d u ≡ false) where
  abbrev t : ℕ
  t = nat_abs (from_edge d u)

  abbrev a : PlaceAlong
  a = along_of d u

  pub in_cell_lem : (a.cell ≤ 2) × (a.cell * d ≤ a.steps) × (a.steps - a.cell * d ≤ d)
  in_cell_lem =
      rw (along-steps d u s.0 s.1 h, along-cell d u s.0 s.1 h)
      (cell-le d t, cell-from d t, omega (arith, cell-upto d t s.0 (steps-most d u h)))

pub outside-yes : {r : ℕ} (b : Bool) → r ≡ cond b 14 0 → (r ≡ 0 → ⊥) → b ≡ true
outside-yes true e h = refl
outside-yes false e h = absurd (h e)

pub outside-no : {r : ℕ} (b : Bool) → r ≡ cond b 14 0 → r ≡ 0 → b ≡ false
outside-no true e h = absurd (omega (arith, e, h))
outside-no false e h = refl

-- ---- the place in the grid

-- a position that has one
pub record Inside (f : Settings) (n e : ℤ) : Type 0 where
  pub early : Early f n e
  pub north : outside (height_of f) (north_from f n) ≡ false
  pub east : outside (width_of f) (east_from f e) ≡ false

module _ (f : Settings) (c : ℕ) (n e : ℤ) where
  abbrev late : List Test
  late = (14, outside (height_of f) (north_from f n) || outside (width_of f) (east_from f e)) ∷ []

  abbrev found : Located
  found = place_of (along_of (height_of f) (north_from f n)) (along_of (width_of f) (east_from f e)) (height_of f) (width_of f)

  pub inside : first (place_tests f c n e) ≡ 0 → Inside f n e
  inside h =
      let p = passes (field_tests f c n e) late tt h in
      let o = or-false (outside (height_of f) (north_from f n)) (outside (width_of f) (east_from f e)) (passed 13 _ _ p.1).0 in
      record { early = early f c n e p.0; north = o.0; east = o.1 }

  pub located-refusal : (located f c n e).refusal ≡ first (place_tests f c n e)
  unfolding located
  located-refusal = by (first (place_tests f c n e))
    where
      by : (r : ℕ) → (cond (eqb r 0) found (no_place r)).refusal ≡ r
      by zero = refl
      by (suc r) = rw (ne_eqb (suc r) 0 (λ z. absurd (omega arith)))

  pub located-in : first (place_tests f c n e) ≡ 0 → located f c n e ≡ found
  unfolding located
  located-in h = rw (eq-eqb (first (place_tests f c n e)) 0 h)

  no-place-is : {r : ℕ} → r ≡ first (place_tests f c n e) → (r ≡ 0 → ⊥) → no_place r ≡ located f c n e
  unfolding located
  no-place-is {r} h k = ap no_place h ∙ rw (ne_eqb (first (place_tests f c n e)) 0 (λ z. k (h ∙ z)))

  pub early-out : {r : ℕ} → r ≡ first (field_tests f c n e) → (r ≡ 0 → ⊥) → no_place r ≡ located f c n e
  early-out h k = no-place-is (stops (field_tests f c n e) late tt h k) k

  module _ (h : first (field_tests f c n e) ≡ 0) where
    pub north-out : outside (height_of f) (north_from f n) ≡ true → no_place 14 ≡ located f c n e
    north-out o = let is : 14 ≡ first late = rw o in no-place-is (is ∙ goes_on (field_tests f c n e) late tt h) (λ z. absurd (omega arith))

    module _ (a : outside (height_of f) (north_from f n) ≡ false) where
      pub east-out : outside (width_of f) (east_from f e) ≡ true → no_place 14 ≡ located f c n e
      east-out o = let is : 14 ≡ first late = rw (a, o) in no-place-is (is ∙ goes_on (field_tests f c n e) late tt h) (λ z. absurd (omega arith))

      pub both-pass : outside (width_of f) (east_from f e) ≡ false → first (place_tests f c n e) ≡ 0
      both-pass o = let is : 0 ≡ first late = rw (a, o) in sym (is ∙ goes_on (field_tests f c n e) late tt h)

      pub both-in : outside (width_of f) (east_from f e) ≡ false → found ≡ located f c n e
      both-in o = sym (located-in (both-pass o))

  -- the place is in its cell
  module _ (k : Fields f) (h : (located f c n e).refusal ≡ 0) where
    none : first (place_tests f c n e) ≡ 0
    none = sym located-refusal ∙ h

    pub within : Within (located f c n e).height (located f c n e).width (located f c n e).north (located f c n e).east
    within =
        let i = inside none in
        let s = spacings f n e k i.early in
        rw (located-in none)
        (record {
          north = (in_cell_lem (height_of f) (north_from f n) s.0 i.north).2;
          east = (in_cell_lem (width_of f) (east_from f e) s.1 i.east).2;
          high = s.0;
          wide = s.1;
        })

    pub in-grid : ((located f c n e).row ≤ 2) × ((located f c n e).column ≤ 2)
    in-grid =
        let i = inside none in
        let s = spacings f n e k i.early in
        rw (located-in none) ((in_cell_lem (height_of f) (north_from f n) s.0 i.north).0, (in_cell_lem (width_of f) (east_from f e) s.1 i.east).0)

-- ---- the place for another component

at_most : (b : Bool) (n y m : ℕ) → n ≤ m → y ≤ m → cond b n y ≤ m
at_most true n y m h k = h
at_most false n y m h k = k

six-most : (a b c d f h : Bool) → first ((8, a) ∷ (9, b) ∷ (10, c) ∷ (11, d) ∷ (12, f) ∷ (13, h) ∷ []) ≤ 13
six-most a b c d f h =
    at_most a 8 _ 13 (omega arith)
    (at_most b 9 _ 13 (omega arith)
    (at_most c 10 _ 13 (omega arith) (at_most d 11 _ 13 (omega arith) (at_most f 12 _ 13 (omega arith) (at_most h 13 _ 13 (omega arith) (omega arith))))))

module _ (f : Settings) (n e : ℤ) where
  -- OUTSIDE comes behind the tests on the fields
  pub outer-passes : (c : ℕ) → first (place_tests f c n e) ≡ 14 → first (field_tests f c n e) ≡ 0
  outer-passes c h = by (first (field_tests f c n e)) refl
    where
      most : first (field_tests f c n e) ≤ 13
      most =
          six-most (ltb 2 c) (beyond f.number n e) (same_z (side c f.indicators) (pos 0)) (not (same_z (side c f.methods) (pos 0)))
          (not (origin_available f.origin)) (same_z f.spacing.north (pos 0) || same_z f.spacing.east (pos 0))

      by : (r : ℕ) → first (field_tests f c n e) ≡ r → first (field_tests f c n e) ≡ 0
      by zero q = q
      by (suc r) q =
          let z : suc r ≡ 14 = stops (field_tests f c n e) (late f c n e) tt (sym q) (λ z. absurd (omega arith)) ∙ h in
          absurd (omega (arith, most, q, z))

  pub placed-passes : (c : ℕ) → first (place_tests f c n e) ≡ 0 → first (field_tests f c n e) ≡ 0
  placed-passes c h = (passes (field_tests f c n e) (late f c n e) tt h).0

  -- what is outside, and where, goes by no component
  pub same_place : (c d : ℕ) → first (field_tests f c n e) ≡ 0 → first (field_tests f d n e) ≡ 0 → located f c n e ≡ located f d n e
  unfolding located
  same_place c d h k =
      ap (λ (r : ℕ). cond (eqb r 0) (found f c n e) (no_place r))
      (sym (goes_on (field_tests f c n e) (late f c n e) tt h) ∙ goes_on (field_tests f d n e) (late f d n e) tt k)

-- a place that is refused has the numbers 0, so its cell is one of a grid too
pub in-some-cell : (f : Settings) (c : ℕ) (n e : ℤ) → Fields f → ((located f c n e).row ≤ 2) × ((located f c n e).column ≤ 2)
in-some-cell f c n e k = by (first (place_tests f c n e)) refl
  where
    by : (r : ℕ) → first (place_tests f c n e) ≡ r → ((located f c n e).row ≤ 2) × ((located f c n e).column ≤ 2)
    by zero h = in-grid f c n e k (located-refusal f c n e ∙ h)
    by (suc r) h = subst (λ (p : Located). (p.row ≤ 2) × (p.column ≤ 2)) (no-place-is f c n e {r = suc r} (sym h) (λ z. absurd (omega arith))) (omega arith, omega arith)
