-- A position t steps east of one that stands in a cell, still on or within the cell's edges, gets the answer of that cell.
-- Assumes nothing.
use mathlib.Core.Path.{◌≡◌, refl, sym, ap, ◌∙◌, subst}
use mathlib.Core.Bool.{Bool, true, false, cond, ◌||◌}
use mathlib.Core.List.{List, [], ◌∷◌}
use Prim.Native.Nat.{ℕ, suc, ◌+◌, ◌*◌, ◌-◌, ◌/◌, ◌≤◌, ◌<◌}
use native.Mathlib.Nat.{suc-mul, mul-le-mul_right}
use native.Mathlib.Omega.{arith}
use borrow.Author.Tests.{le-ltb}
use lib.Dec.{ltb}
use lib.IntN.{ℤ, pos, neg_ℤ, nat_abs, ◌+ℤ◌, ◌-ℤ◌, ◌*ℤ◌}
use lib.ListN.{drop}
use lib.Signed.{◌≤ℤ◌, ◌<ℤ◌}
use Rattle.arith.specs.First.{Test, first}
use Rattle.arith.proofs.First.{passed, passes}
use Rattle.arith.proofs.Int.{Ex, at, nat, minus, ◌⊞◌, ◌⊟◌, ◌⊠◌, ring, order, order_lt, known}
use Rattle.layout.specs.Layout.{value_in}
use Rattle.record_rows.specs.Numbers.{says}
use Rattle.record_grids.specs.declared.Grid.{Grid}
use Rattle.record_grids.specs.declared.Settings.{Settings}
use Rattle.record_grids.specs.Grids.{grid_of, settings_of}
use Rattle.message_rows.specs.Message.{row, kind_refusal}
use Rattle.grid_refusals.specs.Refusals.{beyond, ellipsoidal, field_tests}
use Rattle.grid_bilinear.specs.Bilinear.{from_edge, outside, cell}
use Rattle.grid_bilinear.proofs.Place.{steps-are, steps-most, cell-le, cell-from, cell-upto}
use Rattle.grid_cell.specs.Private.{Within}
use Rattle.grid_place.specs.Position.{turn, half_turn, by_turns, east_by, steps_of, height_of, width_of, north_from, east_from, place_tests}
use Rattle.grid_place.specs.Inner.{located}
use Rattle.grid_place.specs.declared.Located.{Located}
use Rattle.grid_place.proofs.Antimeridian.{turns_of, turned_same, turned-low, turned-only}
use Rattle.grid_place.proofs.Places.{inside, spacings}
use Rattle.grid_shifts.specs.Shift.{part, surface, north_of, east_of, in_cell_shift, message_shift}
use Rattle.grid_shifts.specs.Private.{Held, nodes_in, cell_shift}
use Rattle.grid_shifts.proofs.Parts.{place_at, weights_at, none_before, place_is, summed, cell-is}
use Rattle.grid_shifts.proofs.Accepted.{message-fields}
use Rattle.grid_shifts.proofs.Calls.{shared-answer}

-- ---- the difference east

-- t steps on, still less than half a turn from the origin
turned_on : (d : ℤ) (t : ℕ) → (by_turns d +ℤ pos t) <ℤ pos half_turn → by_turns (d +ℤ pos t) ≡ by_turns d +ℤ pos t
turned_on d t h =
    sym
    (turned-only (d +ℤ pos t) (turns_of d) (by_turns d +ℤ pos t)
    (ap (λ (z : ℤ). z +ℤ pos t) (turned_same d)
    ∙ ring (at d ⊞ at (turns_of d) ⊠ nat turn ⊞ nat t) (at d ⊞ nat t ⊞ at (turns_of d) ⊠ nat turn) (omega arith))
    (order (minus (nat half_turn)) (at (by_turns d) ⊞ nat t) (omega (arith, known (minus (nat half_turn)) (at (by_turns d)) (turned-low d))))
    h)

by-on : (b : Bool) (d : ℤ) (t : ℕ) → (cond b (by_turns d) d +ℤ pos t) <ℤ pos half_turn → cond b (by_turns (d +ℤ pos t)) (d +ℤ pos t) ≡ cond b (by_turns d) d +ℤ pos t
by-on true d t h = turned_on d t h
by-on false d t h = refl

east-on : (g : Grid) (e : ℤ) (t : ℕ) → (east_of g e +ℤ pos t) <ℤ pos half_turn → east_of g (e +ℤ pos t) ≡ east_of g e +ℤ pos t
unfolding east_of
east-on g e t h =
    let o = pos (steps_of g.number) *ℤ value_in g.origin.east in
    ap (east_by g.number) (ring (at e ⊞ nat t ⊟ at o) (at e ⊟ at o ⊞ nat t) (omega arith)) ∙ by-on (ellipsoidal g.number) (e -ℤ o) t h

-- ---- along the width

module _ (W : ℕ) (v : ℤ) (t : ℕ) (o : outside W v ≡ false) where
  abbrev X : ℕ
  X = nat_abs (from_edge W v)

  steps_on : from_edge W (v +ℤ pos t) ≡ pos (X + t)
  unfolding from_edge
  steps_on =
      ring (at v ⊞ nat t ⊞ nat (3 * (W / 2))) (at v ⊞ nat (3 * (W / 2)) ⊞ nat t) (omega arith)
      ∙ ap (λ (z : ℤ). z +ℤ pos t) (steps-are W v o)

  still-inside : X + t ≤ 3 * W → outside W (v +ℤ pos t) ≡ false
  unfolding outside
  still-inside h = rw (steps_on, le-ltb (X + t) 0 (omega arith)) (le-ltb (3 * W) (X + t) h)

  not-half : W ≤ 40950000 → X + t ≤ 3 * W → (v +ℤ pos t) <ℤ pos half_turn
  unfolding from_edge
  not-half w h =
      let is : v ≡ pos X -ℤ pos (3 * (W / 2)) =
      ring (at v) (at v ⊞ nat (3 * (W / 2)) ⊟ nat (3 * (W / 2))) (omega arith) ∙ ap (λ (z : ℤ). z -ℤ pos (3 * (W / 2))) (steps-are W v o) in
      subst (λ (z : ℤ). (z +ℤ pos t) <ℤ pos half_turn) (sym is) (order_lt (nat X ⊟ nat (3 * (W / 2)) ⊞ nat t) (nat half_turn) (omega arith))

-- ---- the tests on the fields, of another position east

other : (a b c : Bool) (ts : List Test) → first ((8, a) ∷ (9, b) ∷ ts) ≡ 0 → c ≡ false → first ((8, a) ∷ (9, c) ∷ ts) ≡ 0
other a b c ts h e = let p = passed 7 a _ h in rw (p.0, e) (passed 8 b _ p.1).1

-- ---- the place

-- the place t steps further east
abbrev pub further : Located → ℕ → Located
further p t = record { refusal = p.refusal; row = p.row; column = p.column; north = p.north; east = p.east + t; height = p.height; width = p.width }

module _ (s : List ℕ) (h : kind_refusal 1023 1024 s ≡ 0) (c : ℕ) (n e : ℤ) where
  abbrev g : Grid
  g = grid_of (says (row s))

  abbrev p : Located
  p = located (settings_of g) c n e

  abbrev H : ℕ
  H = (surface g c).H

  abbrev W : ℕ
  W = (surface g c).W

  abbrev Y : ℕ
  Y = nat_abs (from_edge H (north_of g n))

  abbrev Z : ℕ
  Z = nat_abs (from_edge W (east_of g e))

  fields : Held g
  fields = message-fields s c n e h

  module _ (found : p.refusal ≡ 0) (t : ℕ) (near : beyond g.number n (e +ℤ pos t) ≡ false) (b : p.east + t ≤ p.width) where
    abbrev k : ℕ
    k = cell H Y

    abbrev l : ℕ
    l = cell W Z

    place : p ≡ place_at g c k l Y Z
    place = place_is g c n e fields found

    -- the tests that the first position passed
    none : first (place_tests (settings_of g) c n e) ≡ 0
    none = none_before g c n e fields found

    early : first (field_tests (settings_of g) c n e) ≡ 0
    early =
        (passes (field_tests (settings_of g) c n e) ((14, outside (height_of (settings_of g)) (north_from (settings_of g) n) || outside (width_of (settings_of g)) (east_from (settings_of g) e)) ∷ []) tt none).0

    north-in : outside H (north_of g n) ≡ false
    unfolding surface north_of
    north-in = (inside (settings_of g) c n e none).north

    east-in : outside W (east_of g e) ≡ false
    unfolding surface east_of
    east-in = (inside (settings_of g) c n e none).east

    spaced : ((0 < H) × (H ≤ 40950000)) × ((0 < W) × (W ≤ 40950000))
    unfolding surface
    spaced = spacings (settings_of g) n e fields.settings (inside (settings_of g) c n e none).early

    -- those of the second
    on-width : Z - l * W + t ≤ W
    on-width = subst (λ (q : Located). q.east + t ≤ q.width) place b

    on-cell : (l * W ≤ Z + t) × (Z + t ≤ suc l * W)
    on-cell = (omega (arith, cell-from W Z), omega (arith, cell-from W Z, suc-mul l W, on-width))

    on-grid : Z + t ≤ 3 * W
    on-grid = omega (arith, on-cell.1, mul-le-mul_right W (three (cell-le W Z)))
      where
        three : {m : ℕ} → m ≤ 2 → suc m ≤ 3
        three h = omega arith

    on-east : east_of g (e +ℤ pos t) ≡ east_of g e +ℤ pos t
    on-east = east-on g e t (not-half W (east_of g e) t east-in spaced.1.1 on-grid)

    on-steps : nat_abs (from_edge W (east_of g (e +ℤ pos t))) ≡ Z + t
    on-steps = ap (λ (v : ℤ). nat_abs (from_edge W v)) on-east ∙ ap nat_abs (steps_on W (east_of g e) t east-in)

    on-inside : outside W (east_of g (e +ℤ pos t)) ≡ false
    on-inside = ap (outside W) on-east ∙ still-inside W (east_of g e) t east-in on-grid

    on-tests : first (field_tests (settings_of g) c n (e +ℤ pos t)) ≡ 0
    on-tests = other (ltb 2 c) (beyond g.number n e) (beyond g.number n (e +ℤ pos t)) (drop 2 (field_tests (settings_of g) c n e)) early near

    -- the place in the cell of the first
    on-place : place_at g c k l Y (Z + t) ≡ further p t
    on-place =
        let d : Z + t - l * W ≡ Z - l * W + t = omega (arith, cell-from W Z) in
        (λ i. record { refusal = 0; row = k; column = l; north = Y - k * H; east = d i; height = H; width = W }) ∙ ap (λ (q : Located). further q t) (sym place)

    on-within : Within H W (Y - k * H) (Z + t - l * W)
    on-within =
        record {
          north = omega (arith, suc-mul k H, cell-upto H Y spaced.0.0 (steps-most H (north_of g n) north-in));
          east = omega (arith, suc-mul l W, on-cell.1);
          high = spaced.0;
          wide = spaced.1;
        }

    pub on-in-cell : message_shift s c n (e +ℤ pos t) ≡ cell_shift g.number c (part c g.mean) (nodes_in g.nodes c p.row p.column) (weights_at (further p t))
    on-in-cell =
        let r : place_at g c k l Y Z ≡ p = sym place in
        shared-answer s c n (e +ℤ pos t) h on-tests north-in on-inside k l (cell-le H Y) (cell-le W Z) (cell-from H Y)
        (cell-upto H Y spaced.0.0 (steps-most H (north_of g n) north-in)) (rw on-steps on-cell.0) (rw on-steps on-cell.1)
        ∙ ap (in_cell_shift g c k l Y) on-steps
        ∙ sym (cell-is g c k l Y (Z + t) on-within (summed g c k l (place_at g c k l Y (Z + t)) fields on-within))
        ∙ (λ i. cell_shift g.number c (part c g.mean) (nodes_in g.nodes c (r i).row (r i).column) (weights_at (on-place i)))
