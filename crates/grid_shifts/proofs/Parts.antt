-- From a place and what its nodes say to the answer: the refusals of a cell, the count at a place, and the answer of a grid.
-- Assumes nothing.
use Rattle.std.proofs.Common.{Option}
use mathlib.Core.Path.{◌≡◌, refl, sym, ap, ◌∙◌, subst}
use mathlib.Core.Bool.{Bool, true, false, cond, ◌&&◌}
use mathlib.Core.List.{List, [], ◌∷◌}
use Prim.Native.Nat.{ℕ, zero, suc, ◌+◌, ◌*◌, ◌-◌, ◌≤◌, ◌<◌}
use native.Mathlib.Nat.{le_trans}
use native.Mathlib.Omega.{arith}
use borrow.Author.Tests.{eq-eqb, ne_eqb}
use lib.Dec.{ltb, lit≤}
use lib.IntN.{ℤ, pos, nat_abs, ◌+ℤ◌, ◌*ℤ◌}
use Rattle.arith.specs.First.{Test, first}
use Rattle.arith.specs.Whole.{same_z}
use Rattle.arith.proofs.First.{stops, goes_on, passes}
use Rattle.arith.proofs.Machine.{Num, lit, arg, mul}
use Rattle.layout.specs.Layout.{value_in}
use Rattle.record_grids.specs.declared.Grid.{Grid}
use Rattle.record_grids.specs.Grids.{settings_of}
use Rattle.grid_bilinear.specs.Bilinear.{nearest_whole, from_edge, outside, cell, in_cell, exact, interpolated, absent_in, absent}
use Rattle.grid_cell.specs.Inner.{weights_of, weights_in, sum_of}
use Rattle.grid_cell.specs.Private.{Within, Weighed, Most}
use Rattle.grid_cell.specs.declared.Corners.{Corners}
use Rattle.grid_cell.specs.declared.Weights.{Weights}
use Rattle.grid_cell.proofs.Sum.{area-most, sum-most, weighed}
use Rattle.grid_direction.proofs.Placed.{along-steps, along-cell}
use Rattle.grid_cell.proofs.Held.{count-at-is, weights-in-is}
use Rattle.grid_counts.specs.Counts.{node_factor, mean_factor, refused_with}
use Rattle.grid_counts.specs.Inner.{values_in, lacking, count_at, cell_count}
use Rattle.grid_counts.specs.declared.Counted.{Counted}
use Rattle.grid_counts.proofs.Bounds.{count_most}
use Rattle.grid_place.specs.Position.{height_of, width_of, north_from, east_from, place_tests}
use Rattle.grid_place.specs.Inner.{located}
use Rattle.grid_shifts.specs.Shift.{part, surface, north_of, east_of, grid_tests, answer_of, outcome, in_cell_shift, shift_with}
use Rattle.grid_shifts.specs.Private.{Held, nodes_in, cell_shift, part_shift}
use Rattle.grid_shifts.specs.declared.Answer.TheVariants.{Refused}
use Rattle.grid_place.specs.declared.Located.{Located}
use Rattle.grid_fields.specs.declared.Nodes.{Nodes}
use Rattle.grid_shifts.specs.declared.Shift.{Shift}
use Rattle.grid_place.proofs.Places.{Early, inside, spacings, located-refusal, located-in, within, in-grid}

-- ---- a refusal

abbrev pub Refuses : ℕ → Shift → Type 0
Refuses r s = (s.refusal ≡ r) × (s.count ≡ pos 0) × (s.answer ≡ Refused r)

pub refuses : (number : ℤ) (c r : ℕ) (count : ℤ) (s : Shift) → Refuses r s → (r ≡ 0 → ⊥) → s ≡ outcome number c r count
unfolding outcome answer_of
refuses number c r count s h n = (λ i. record { refusal = h.0 i; count = h.1 i; answer = h.2 i }) ∙ rw (ne_eqb r 0 n)

pub refusal_is : (number : ℤ) (c r : ℕ) → (r ≡ 0 → ⊥) → Refuses r (outcome number c r (pos 0))
unfolding outcome answer_of
refusal_is number c r n = rw (ne_eqb r 0 n) (refl, refl, refl)

-- ---- the answers in a cell

module _ (number : ℤ) (c : ℕ) (mean : Option ℤ) (n : Nodes) (k : Weights) where
  abbrev count : ℤ
  count = count_at number c (value_in mean) (values_in n) k

  of-count : (b : Bool) → let r : Counted = cond b (refused_with 15) (record { refusal = 0; count = count }) in outcome number c r.refusal r.count ≡ outcome number c (cond b 15 0) count
  unfolding outcome
  of-count true = refl
  of-count false = refl

  pub cell-outcome : cell_shift number c mean n k ≡ outcome number c (cond (lacking mean n k) 15 0) count
  unfolding cell_shift cell_count
  cell-outcome = of-count (lacking mean n k)

pub factor-most : (number : ℤ) (c : ℕ) → node_factor number c ≤ 10
factor-most number c = by (same_z number (pos 1023) && ltb c 2)
  where
    by : (b : Bool) → cond b 3 10 ≤ 10
    by true = omega arith
    by false = omega arith

-- weights of a place in its cell, with values that a grid message can hold
pub record Bounded (m : ℤ) (n : Corners) (k : Weights) : Type 0 where
  pub mean : nat_abs m ≤ 16384
  pub nodes : Most 256 n
  pub weights : Weighed k

-- at a place in its cell
module _ (number : ℤ) (c : ℕ) {m : ℤ} {n : Corners} {h w y x : ℕ} (p : Within h w y x) (b : Bounded m n (weights_of h w y x)) where
  abbrev means : Num
  means = mul (lit 100 tt) (arg m 16384 b.mean tt) tt

  pub count_at_lem : count_at number c m n (weights_of h w y x) ≡ pos mean_factor *ℤ m +ℤ nearest_whole (sum_of (node_factor number c) h w y x n) (h * w)
  count_at_lem = count-at-is p means.z (node_factor number c) n b.nodes means.le (factor-most number c)

-- ---- the answer of a grid

-- the place y and x steps from the edges of a grid, in the cell k from the south and l from the west
abbrev pub place_at : Grid → (c k l y x : ℕ) → Located
place_at g c k l y x =
    record {
      refusal = 0;
      row = k;
      column = l;
      north = y - k * (surface g c).H;
      east = x - l * (surface g c).W;
      height = (surface g c).H;
      width = (surface g c).W;
    }

abbrev pub weights_at : Located → Weights
weights_at p = weights_of p.height p.width p.north p.east

abbrev pub In : Located → Type 0
In p = Within p.height p.width p.north p.east

-- what is summed there
abbrev pub Summed : Grid → (c k l : ℕ) → Located → Type 0
Summed g c k l p = Bounded (value_in (part c g.mean)) (values_in (nodes_in g.nodes c k l)) (weights_at p)

pub summed : (g : Grid) (c k l : ℕ) (p : Located) → Held g → In p → Summed g c k l p
summed g c k l p f w =
    let a = f.nodes c in
    record {
      mean = f.mean c;
      nodes = record { sw = a (3 - k) l; se = a (3 - k) (l + 1); nw = a (2 - k) l; ne = a (2 - k) (l + 1) };
      weights = weighed w;
    }

pub cell-is : (g : Grid) (c k l y x : ℕ) → In (place_at g c k l y x) → Summed g c k l (place_at g c k l y x)
    → cell_shift g.number c (part c g.mean) (nodes_in g.nodes c k l) (weights_at (place_at g c k l y x)) ≡ in_cell_shift g c k l y x
unfolding absent_in in_cell surface
cell-is g c k l y x w b =
    cell-outcome g.number c (part c g.mean) (nodes_in g.nodes c k l) (weights_at (place_at g c k l y x))
    ∙ ap (outcome g.number c (cond (absent_in (surface g c) k l y x) 15 0)) (count_at_lem g.number c w b)

module _ (g : Grid) (c : ℕ) (n e : ℤ) where
  abbrev p : Located
  p = located (settings_of g) c n e

  abbrev H : ℕ
  H = (surface g c).H

  abbrev W : ℕ
  W = (surface g c).W

  abbrev y : ℕ
  y = nat_abs (from_edge H (north_of g n))

  abbrev x : ℕ
  x = nat_abs (from_edge W (east_of g e))

  abbrev answer : ℕ → Shift
  answer r = outcome g.number c r (interpolated (surface g c) (north_of g n) (east_of g e))

  abbrev late : List Test
  late = (15, absent (surface g c) (north_of g n) (east_of g e)) ∷ []

  -- a refusal of the place
  pub refused_as : {r : ℕ} → r ≡ first (place_tests (settings_of g) c n e) → (r ≡ 0 → ⊥) → r ≡ first (grid_tests g c n e)
  unfolding surface north_of east_of
  refused_as h k = stops (place_tests (settings_of g) c n e) late tt h k

  pub refused-out : (s : Shift) → (p.refusal ≡ 0 → ⊥) → Refuses p.refusal s → s ≡ shift_with g c n e (first (grid_tests g c n e))
  unfolding shift_with
  refused-out s k h =
      refuses g.number c p.refusal _ s h k ∙ ap answer (refused_as (located-refusal (settings_of g) c n e) k)

  -- the answer in the cell of the place
  passed-as : first (place_tests (settings_of g) c n e) ≡ 0 → cond (absent (surface g c) (north_of g n) (east_of g e)) 15 0 ≡ first (grid_tests g c n e)
  unfolding surface north_of east_of
  passed-as h = goes_on (place_tests (settings_of g) c n e) late tt h

  pub in-out : first (place_tests (settings_of g) c n e) ≡ 0 → in_cell_shift g c (cell H y) (cell W x) y x ≡ shift_with g c n e (first (grid_tests g c n e))
  unfolding shift_with interpolated exact absent
  in-out h = ap answer (passed-as h)

  -- of a grid that a message holds
  module _ (k : Held g) (h : p.refusal ≡ 0) where
    pub none_before : first (place_tests (settings_of g) c n e) ≡ 0
    none_before = sym (located-refusal (settings_of g) c n e) ∙ h

    pub place_is : p ≡ place_at g c (cell H y) (cell W x) y x
    unfolding surface north_of east_of
    place_is =
        let f = settings_of g in
        let i = inside f c n e none_before in
        let d = spacings f n e k.settings i.early in
        located-in f c n e none_before
        ∙ rw (
          along-steps (height_of f) (north_from f n) d.0.0 d.0.1 i.north,
          along-cell (height_of f) (north_from f n) d.0.0 d.0.1 i.north,
          along-steps (width_of f) (east_from f e) d.1.0 d.1.1 i.east,
          along-cell (width_of f) (east_from f e) d.1.0 d.1.1 i.east,
        )

    in-cell-of : In p
    in-cell-of = within (settings_of g) c n e k.settings h

    pub summed-in : Summed g c p.row p.column p
    summed-in = summed g c p.row p.column p k in-cell-of

    in_place : In (place_at g c (cell H y) (cell W x) y x)
    in_place = subst In place_is in-cell-of

    summed-place : Summed g c (cell H y) (cell W x) (place_at g c (cell H y) (cell W x) y x)
    summed-place = subst (λ (q : Located). Summed g c q.row q.column q) place_is summed-in

    pub answered-out : cell_shift g.number c (part c g.mean) (nodes_in g.nodes c p.row p.column) (weights_at p) ≡ shift_with g c n e (first (grid_tests g c n e))
    answered-out =
        (λ i. cell_shift g.number c (part c g.mean) (nodes_in g.nodes c (place_is i).row (place_is i).column) (weights_at (place_is i)))
        ∙ cell-is g c (cell H y) (cell W x) y x in_place summed-place
        ∙ in-out none_before

    -- twice the sum, and the count
    pub sum_below : 2 * nat_abs (exact (surface g c) y x) < 8600000000000000000
    unfolding exact in_cell surface
    sum_below =
        let b = summed-place in
        omega (
          arith,
          area-most in_place,
          sum-most in_place (node_factor g.number c) (values_in (nodes_in g.nodes c (cell H y) (cell W x))) (factor-most g.number c) b.nodes,
        )

    pub whole-most : nat_abs (interpolated (surface g c) (north_of g n) (east_of g e)) ≤ 9007199254740992
    unfolding interpolated exact in_cell surface
    whole-most =
        subst (λ (z : ℤ). nat_abs z ≤ 9007199254740992) (count_at_lem g.number c in_place summed-place) (le_trans (count_most _ _ _ _) (lit≤ tt))

-- ---- a position that is answered

pub record Answered (g : Grid) (c : ℕ) (n e : ℤ) : Type 0 where
  pub early : Early (settings_of g) n e
  pub north : outside (surface g c).H (north_of g n) ≡ false
  pub east : outside (surface g c).W (east_of g e) ≡ false
  pub found : (located (settings_of g) c n e).refusal ≡ 0

pub answered : (g : Grid) (c : ℕ) (n e : ℤ) → first (grid_tests g c n e) ≡ 0 → Answered g c n e
unfolding surface north_of east_of
answered g c n e h =
    let p = (passes (place_tests (settings_of g) c n e) (late g c n e) tt h).0 in
    let i = inside (settings_of g) c n e p in
    record { early = i.early; north = i.north; east = i.east; found = located-refusal (settings_of g) c n e ∙ p }

-- ---- one part of a call: r is the refusal of the component's place and t a place that is this one where r is 0

module _ (g : Grid) (c : ℕ) (n e : ℤ) (f : Held g) {r : ℕ} {t : Located} (a : r ≡ (located (settings_of g) c n e).refusal) (b : r ≡ 0 → t ≡ located (settings_of g) c n e) where
  none-at : r ≡ 0 → (located (settings_of g) c n e).refusal ≡ 0
  none-at z = sym a ∙ z

  pub call-cell : r ≡ 0 → (t.row ≤ 2) × (t.column ≤ 2)
  call-cell z = rw (b z) (in-grid (settings_of g) c n e f.settings (none-at z))

  weights-of-place : r ≡ 0 → weights_in t.height t.width t.north t.east ≡ weights_at t
  weights-of-place z = weights-in-is (subst In (sym (b z)) (within (settings_of g) c n e f.settings (none-at z)))

  module _
      {m : Option ℤ}
      {w : Nodes}
      {k : Weights}
      (p : m ≡ part c g.mean)
      (q : r ≡ 0 → w ≡ nodes_in g.nodes c t.row t.column)
      (l : k ≡ weights_in t.height t.width t.north t.east) where
    part-is : (x : ℕ) → r ≡ x → part_shift g.number c r m w k ≡ shift_with g c n e (first (grid_tests g c n e))
    unfolding part_shift
    part-is zero y = rw (eq-eqb r 0 y) (rw (p, q y, l, weights-of-place y, b y) (answered-out g c n e f (none-at y)))
    part-is (suc x) y =
        let o : r ≡ 0 → ⊥ = λ u. absurd (omega (arith, y, u)) in
        rw (ne_eqb r 0 o)
        (refused-out g c n e (outcome g.number c r (pos 0)) (λ u. o (a ∙ u)) (subst (λ (v : ℕ). Refuses v (outcome g.number c r (pos 0))) a (refusal_is g.number c r o)))

    pub call-part : {s : Shift} {z : ℤ} → s ≡ part_shift z c r m w k → z ≡ g.number → s ≡ shift_with g c n e (first (grid_tests g c n e))
    call-part h d = h ∙ ap (λ (y : ℤ). part_shift y c r m w k) d ∙ part-is r refl
