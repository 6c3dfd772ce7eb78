-- The shift at a node of a written message is the wanted height: the row written reads back as itself, and the answer at a node is the node's own.
-- Assumes nothing.
use Rattle.std.proofs.Common.{Option, Some}
use mathlib.Core.Path.{◌≡◌, refl, sym, ap, subst, ◌∙◌}
use mathlib.Core.Bool.{Bool, true, false, not, cond, ◌&&◌, ◌||◌}
use mathlib.Core.List.{List, [], ◌∷◌, ◌++◌}
use mathlib.Core.Logic.{⊎_elim}
use Prim.Native.Nat.{ℕ, suc, ◌+◌, ◌-◌, ◌*◌, ◌≤◌, ◌<◌}
use native.Mathlib.Decide.{dec_lt}
use native.Mathlib.Nat.{mul-le-mul}
use native.Mathlib.Omega.{arith}
use borrow.Author.Tests.{leb-true}
use lib.Dec.{eqb, leb, ltb}
use lib.IntN.{ℤ, pos, negsuc, neg_ℤ, nat_abs, ◌+ℤ◌, ◌-ℤ◌, ◌*ℤ◌}
use lib.ListN.{length, get_or, get_or-eq_default}
use Rattle.arith.specs.First.{Test, first}
use Rattle.arith.specs.Lists as Lists
use Rattle.arith.specs.Whole.{natural, same_z}
use Rattle.arith.proofs.First.{passed, not-false, or-false, passes, goes_on}
use Rattle.arith.proofs.Int.{at, nat, minus, ◌⊞◌, ◌⊟◌, ◌⊠◌, ring, order, order_lt, abs-mul, abs-within, within-abs}
use Rattle.arith.proofs.Lists.{length-up_to, get_d-up_to}
use Rattle.arith.proofs.Tests.{both_first, both-second, all-at}
use Rattle.layout.specs.Layout.{row_of, row_takes, place_takes, value_in, size, available}
use Rattle.layout_tables.specs.Layouts.{layout1023, known}
use Rattle.layout_tables.proofs.Length.{length-1023}
use Rattle.record_rows.specs.Numbers.{says, number_at, pair_at}
use Rattle.record_grids.specs.declared.Grid.{Grid}
use Rattle.record_grids.specs.declared.Shifts.{Shifts}
use Rattle.record_grids.specs.Grids.{grid_of, settings_of, origin_at, spacing_at, shifts_at, nodes_at}
use Rattle.message_rows.specs.Message.{message, row, row_layout, row_tests, kind_refusal, of_kind, write_refusal}
use Rattle.message_rows.proofs.OneKind.{kind-read}
use Rattle.message_rows.proofs.Trips.{number-back, message-accepted, row-of-message}
use Rattle.grid_bilinear.specs.Bilinear.{from_edge, outside, absent, interpolated}
use Rattle.grid_refusals.specs.Refusals.{ellipsoidal, origin_available, beyond, field_tests}
use Rattle.grid_place.specs.Position.{steps_of, turn, half_turn, by_turns}
use Rattle.grid_place.proofs.Places.{early, spacings}
use Rattle.grid_place.proofs.Antimeridian.{turned-only}
use Rattle.grid_shifts.specs.declared.Shift.{Shift}
use Rattle.grid_shifts.specs.Private.{Held}
use Rattle.grid_counts.specs.Counts.{node_factor}
use Rattle.grid_shifts.specs.Shift.{surface, north_of, east_of, grid_tests, answer_of, outcome, shift_with, message_shift, float_of, three_of, message_shifts}
use Rattle.grid_shifts.proofs.Accepted.{message-passed, message-fields}
use Rattle.heights_mean.specs.Means.{less, near_at, fits, smallest_mean}
use Rattle.heights_mean.proofs.Near.{less-most}
use Rattle.std.specs.Prelude.{Option, Some, None}
use Rattle.heights_mean.proofs.Choice.{NoneFits, Smallest, smallest, found-or-none}
use Rattle.heights.specs.Heights.{of_height, height_values, height_present, count_tests, zero_beside, says_zero, says_other, says_none, record_tests, mean_tests, heights_refusal, heights_message}
use Rattle.heights.proofs.Calls.{message-is}
use Rattle.demands_heights.specs.Heights.{steps_at, Gives, GivesWanted}
use Rattle.demands_heights.proofs.Metres.{metres-is}
use Rattle.demands_heights.proofs.Node.{node-answer, node-inside, none-absent, edge-steps}
use Rattle.demands_heights.proofs.Row.{said, said-unless, place_at_lem, other-value, other_byte, says_other_lem, says-mean, says-node}
use Rattle.demands_heights.proofs.Refusals.{counted_of, layout_is, no-mean-exactly}

-- ---- the grid of a written message

abbrev zeros : Shifts
zeros = record { north = Some (pos 0); east = Some (pos 0); height = Some (pos 0) }

record Facts (z wanted : List ℤ) (m : ℤ) (g : Grid) : Type 0 where
  pub number : g.number ≡ pos 1023
  pub shown : same_z g.indicators.vertical (pos 0) ≡ false
  pub method : same_z g.methods.vertical (pos 0) ≡ true
  pub north : g.origin.north ≡ Some (Lists.at z 4)
  pub east : g.origin.east ≡ Some (Lists.at z 5)
  pub rows : g.spacing.north ≡ Lists.at z 6
  pub columns : g.spacing.east ≡ Lists.at z 7
  pub spaced : (same_z g.spacing.north (pos 0) || same_z g.spacing.east (pos 0)) ≡ false
  pub mean : g.mean.height ≡ Some m
  pub sixteen : length g.nodes ≡ 16
  pub node : (k : ℕ) → k < 16 → (get_or g.nodes k zeros).height ≡ Some (less (Lists.at wanted k) m)

natural-is : (y : ℤ) (k : ℕ) → natural y ≡ suc k → y ≡ pos (suc k)
natural-is (pos n) k e = ap pos e
natural-is (negsuc n) k e = absurd (omega arith)

-- ---- the answer of such a grid at a node

-- no test on the fields holds
none_first : (b c d f h : Bool) → b ≡ false → c ≡ false → d ≡ true → f ≡ true → h ≡ false
    → first ((8, false) ∷ (9, b) ∷ (10, c) ∷ (11, not d) ∷ (12, not f) ∷ (13, h) ∷ []) ≡ 0
none_first b c d f h p q r s t = rw (p, q, r, s, t)

-- the difference east, brought back from any turns
turned-back : (o d t : ℤ) → nat_abs d ≤ 30712500 → d ≡ by_turns (pos 5000 *ℤ o +ℤ d +ℤ t *ℤ pos turn -ℤ pos 5000 *ℤ o)
turned-back o d t h =
    let w = within-abs (at d) h in
    turned-only (pos 5000 *ℤ o +ℤ d +ℤ t *ℤ pos turn -ℤ pos 5000 *ℤ o) (neg_ℤ t) d
    (ring (at d) (nat 5000 ⊠ at o ⊞ at d ⊞ at t ⊠ nat turn ⊟ nat 5000 ⊠ at o ⊞ minus (at t) ⊠ nat turn) (omega arith))
    (order (minus (nat half_turn)) (at d) (omega (arith, w.1)))
    (order_lt (at d) (nat half_turn) (omega (arith, w.0)))

-- column j stands at most three halves of the greatest spacing from the origin
column-most : (j r : ℕ) → j ≤ 3 → r ≤ 4095 → nat_abs ((pos (2 * j) -ℤ pos 3) *ℤ pos (2500 * r)) ≤ 30712500
column-most j r h k =
    let a : nat_abs (pos (2 * j) -ℤ pos 3) ≤ 3 = abs-within (nat (2 * j) ⊟ nat 3) (omega arith) (omega arith) in
    let c : 2500 * r ≤ 10237500 = omega arith in
    rw (abs-mul (pos (2 * j) -ℤ pos 3) (pos (2500 * r))) (mul-le-mul a c)

module _ (z wanted : List ℤ) (m : ℤ) (g : Grid) (p : Facts z wanted m g) where
  ell : ellipsoidal g.number ≡ true
  unfolding same_z
  ell = rw p.number

  steps : steps_of g.number ≡ 5000
  steps = rw ell

  high : (surface g 2).H ≡ natural (Lists.at z 6) * 5000
  unfolding surface
  high = λ x. natural (p.rows x) * steps x

  wide : (surface g 2).W ≡ natural (Lists.at z 7) * 5000
  unfolding surface
  wide = λ x. natural (p.columns x) * steps x

  mean-present : (surface g 2).mean_present ≡ true
  unfolding surface
  mean-present = ap available p.mean

  present : (i j : ℕ) → (surface g 2).present i j ≡ true
  unfolding surface
  present i j = by (dec_lt (4 * i + j) 16)
    where
      by : Dec (4 * i + j < 16) → available (get_or g.nodes (4 * i + j) zeros).height ≡ true
      by (yes l) = ap available (p.node (4 * i + j) l)
      by (no l) = ap (λ (s : Shifts). available s.height) (get_or-eq_default g.nodes zeros (omega (arith, p.sixteen)))

  factor : node_factor g.number 2 ≡ 10
  factor = rw ell

  -- a hundred counts for each step of the mean, ten for each millimetre
  node-count : (i j : ℕ) → i ≤ 3 → j ≤ 3 → (surface g 2).mean +ℤ (surface g 2).node i j ≡ pos 10 *ℤ Lists.at wanted (4 * i + j)
  unfolding surface less
  node-count i j k l =
      let h = p.node (4 * i + j) (omega arith) in
      (λ x. pos 100 *ℤ value_in (p.mean x) +ℤ pos (factor x) *ℤ value_in (h x))
      ∙ ring (nat 100 ⊠ at m ⊞ nat 10 ⊠ (at (Lists.at wanted (4 * i + j)) ⊟ nat 10 ⊠ at m)) (nat 10 ⊠ at (Lists.at wanted (4 * i + j))) (omega arith)

  module _ (held : Held g) (i j : ℕ) (row : i ≤ 3) (column : j ≤ 3) (turns north east : ℤ) (q : north ≡ steps_at z 4 (pos 3 -ℤ pos (2 * i))) (r : east ≡ steps_at z 5 (pos (2 * j) -ℤ pos 3) +ℤ turns *ℤ pos turn) where
    -- counted from the south
    abbrev t : ℕ
    t = 3 - i

    halves : pos 3 -ℤ pos (2 * i) ≡ pos (2 * t) -ℤ pos 3
    halves = ring (nat 3 ⊟ nat (2 * i)) (nat (2 * t) ⊟ nat 3) (omega arith)

    north-edge : from_edge (surface g 2).H (north_of g north) ≡ pos (t * (surface g 2).H)
    unfolding north_of
    north-edge =
        let d = natural (Lists.at z 6) in
        let o = Lists.at z 4 in
        (λ x. from_edge (high x) (q x -ℤ pos (steps x) *ℤ value_in (p.north x)))
        ∙ ap (λ (y : ℤ). from_edge (d * 5000) (pos 5000 *ℤ o +ℤ y *ℤ pos (2500 * d) -ℤ pos 5000 *ℤ o)) halves
        ∙ edge-steps d t o ∙ ap (λ (h : ℕ). pos (t * h)) (sym high)

    -- the difference of the column
    abbrev apart : ℤ
    apart = (pos (2 * j) -ℤ pos 3) *ℤ pos (2500 * natural (Lists.at z 7))

    spacing-most : natural (Lists.at z 7) ≤ 4095
    spacing-most = subst (λ (y : ℤ). natural y ≤ 4095) p.columns held.settings.columns.1

    east-is : east_of g east ≡ apart
    unfolding east_of
    east-is =
        (λ x. cond (ell x) (by_turns (r x -ℤ pos (steps x) *ℤ value_in (p.east x))) (r x -ℤ pos (steps x) *ℤ value_in (p.east x)))
        ∙ sym (turned-back (Lists.at z 5) apart turns (column-most j (natural (Lists.at z 7)) column spacing-most))

    east-edge : from_edge (surface g 2).W (east_of g east) ≡ pos (j * (surface g 2).W)
    east-edge =
        let d = natural (Lists.at z 7) in
        let o = Lists.at z 5 in
        (λ x. from_edge (wide x) (east-is x))
        ∙ ap (from_edge (d * 5000)) (ring (at apart) (nat 5000 ⊠ at o ⊞ at apart ⊟ nat 5000 ⊠ at o) (omega arith))
        ∙ edge-steps d j o ∙ ap (λ (h : ℕ). pos (j * h)) (sym wide)

    module _ (b : beyond (pos 1023) north east ≡ false) where
      field-tests : first (field_tests (settings_of g) 2 north east) ≡ 0
      field-tests =
          none_first (beyond g.number north east) _ _ (origin_available g.origin) _
          (ap (λ (y : ℤ). beyond y north east) p.number ∙ b) p.shown p.method
          (λ x. available (p.north x) && available (p.east x)) p.spaced

      abbrev late : List Test
      late =
          (14, outside (surface g 2).H (north_of g north) || outside (surface g 2).W (east_of g east))
          ∷ (15, absent (surface g 2) (north_of g north) (east_of g east))
          ∷ []

      inside : first (grid_tests g 2 north east) ≡ 0
      unfolding surface north_of east_of
      inside =
          sym (goes_on (field_tests (settings_of g) 2 north east) late tt field-tests)
          ∙ rw (
            node-inside (surface g 2).H t (north_of g north) (omega arith) north-edge,
            node-inside (surface g 2).W j (east_of g east) column east-edge,
            none-absent (surface g 2) mean-present present (north_of g north) (east_of g east),
          )

      some : (0 < (surface g 2).H) × (0 < (surface g 2).W)
      unfolding surface
      some = let d = spacings (settings_of g) north east held.settings (early (settings_of g) 2 north east field-tests) in (d.0.0, d.1.0)

      count : interpolated (surface g 2) (north_of g north) (east_of g east) ≡ pos 10 *ℤ Lists.at wanted (4 * i + j)
      count =
          let back : 3 - t ≡ i = omega arith in
          node-answer (surface g 2) some.0 some.1 t j (omega arith) column (north_of g north) (east_of g east) north-edge east-edge
          ∙ ap (λ (k : ℕ). (surface g 2).mean +ℤ (surface g 2).node k j) back
          ∙ node-count i j row column

-- ---- the message that was written

-- a height that is near a mean of the range
height-most : (wanted : List ℤ) (m : ℤ) → Smallest wanted m → (k : ℕ) → k < 16 → nat_abs (Lists.at wanted k) ≤ 164085
unfolding fits
height-most wanted m s k l =
    let d = within-abs (at (Lists.at wanted k) ⊟ nat 10 ⊠ at m) (less-most m (Lists.at wanted k) (all-at (near_at wanted m) 16 s.fitting k l)) in
    let r = within-abs (at m) s.range in
    abs-within (at (Lists.at wanted k)) (omega (arith, d.0, r.0)) (omega (arith, d.1, r.1))

module _ (z : List ℤ) (b : List ℕ) (wanted : List ℤ) (n : ℕ) (e : heights_refusal z b wanted n ≡ 0) where
  tests : (first (count_tests z b wanted ++ record_tests z b) ≡ 0) × (first (mean_tests z b wanted n (smallest_mean wanted)) ≡ 0)
  unfolding heights_refusal
  tests = passes (count_tests z b wanted ++ record_tests z b) (mean_tests z b wanted n (smallest_mean wanted)) tt e

  -- what the record says
  record Recorded : Type 0 where
    pub shown : says_zero z b 3 ≡ false
    pub method : says_other z b 60 ≡ false
    pub origin : (says_none z b 4 ≡ false) × (says_none z b 5 ≡ false)
    pub spaced : (says_zero z b 6 ≡ false) × (says_zero z b 7 ≡ false)

  recorded : Recorded
  recorded =
      let h = (counted_of z b wanted tests.0).1 in
      let x = passed 9 (says_zero z b 3) _ h in
      let y = passed 10 (says_other z b 60) _ x.1 in
      let w = passed 11 (says_none z b 4 || says_none z b 5) _ y.1 in
      record {
        shown = x.0;
        method = y.0;
        origin = or-false _ _ w.0;
        spaced = or-false _ _ (passed 12 _ _ w.1).0;
      }

  module _ (m : ℤ) (f : smallest_mean wanted ≡ Some m) where
    abbrev zs : List ℤ
    zs = height_values z wanted m

    abbrev bs : List ℕ
    bs = height_present b

    abbrev v : List (Option ℤ)
    v = row_of zs bs

    later : (of_kind 1023 1023 v ≡ true) × (first (row_tests zs bs n) ≡ 0)
    later =
        let h : first (mean_tests z b wanted n (Some m)) ≡ 0 = ap (λ (k : Option ℤ). first (mean_tests z b wanted n k)) (sym f) ∙ tests.1 in
        let x = passed 4 (not (of_kind 1023 1023 v)) _ h in
        (not-false _ x.0, x.1)

    abbrev num : ℕ
    num = natural (number_at (says v) 0)

    number_is : num ≡ 1023
    number_is =
        let l = leb-true 1023 num (both_first (leb 1023 num) (leb num 1023) later.0) in
        let h = leb-true num 1023 (both-second (leb 1023 num) (leb num 1023) later.0) in
        omega arith

    written : write_refusal zs bs n ≡ 0
    unfolding write_refusal
    written = later.1

    taken : row_takes layout1023 zs bs ≡ true
    taken =
        let x = passed 4 (not (known num)) _ later.1 in
        let y = passed 4 (ltb 96 (length (row_layout v))) _ x.1 in
        let w = not-false (row_takes (row_layout v) zs bs) (passed 4 (not (row_takes (row_layout v) zs bs)) (cond (ltb n (size (row_layout v))) 6 0) y.1).0 in
        subst (λ (es : List ℕ). row_takes es zs bs ≡ true) (layout_is z b wanted m number_is) w

    place : (k : ℕ) → k < 64 → of_height k ≡ false → place_takes (get_or layout1023 k 0) (Lists.at z k) (get_or b k 0) ≡ true
    place k l o =
        let h = place_at_lem layout1023 zs bs taken k (omega (arith, l, length-1023)) in
        rw (other-value z b wanted m k l o, other_byte z b wanted m k l o) at h

    -- a field that has a value says it
    says-value : (k : ℕ) → k < 64 → of_height k ≡ false → eqb (get_or b k 0) 1 ≡ true → says v k ≡ Some (Lists.at z k)
    says-value k l o t = says_other_lem z b wanted m k l o ∙ rw t

    node_of : (k : ℕ) → k < 16 → (get_or (nodes_at (says v) 11) k zeros).height ≡ Some (less (Lists.at wanted k) m)
    unfolding nodes_at shifts_at
    node_of k l =
        let e : 11 + 3 * k + 2 ≡ 13 + 3 * k = omega arith in
        ap (λ (s : Shifts). s.height) (get_d-up_to (λ i. shifts_at (says v) (11 + 3 * i)) 16 k zeros l) ∙ ap (says v) e ∙ says-node z b wanted m k l

    facts : Facts z wanted m (grid_of (says v))
    unfolding grid_of pair_at origin_at spacing_at shifts_at nodes_at zero_beside says_other layout1023
    facts =
        let r = recorded in
        let t0 = said 12 (Lists.at z 0) (get_or b 0 0) refl (place 0 (omega arith) refl) in
        let t3 = said 1 (Lists.at z 3) (get_or b 3 0) refl (place 3 (omega arith) refl) in
        let t60 = said 2 (Lists.at z 60) (get_or b 60 0) refl (place 60 (omega arith) refl) in
        let t6 = said 12 (Lists.at z 6) (get_or b 6 0) refl (place 6 (omega arith) refl) in
        let t7 = said 12 (Lists.at z 7) (get_or b 7 0) refl (place 7 (omega arith) refl) in
        let t4 = said-unless _ (Lists.at z 4) (get_or b 4 0) r.origin.0 (place 4 (omega arith) refl) in
        let t5 = said-unless _ (Lists.at z 5) (get_or b 5 0) r.origin.1 (place 5 (omega arith) refl) in
        let v3 = ap value_in (says-value 3 (omega arith) refl t3) in
        let v60 = ap value_in (says-value 60 (omega arith) refl t60) in
        let v6 = ap value_in (says-value 6 (omega arith) refl t6) in
        let v7 = ap value_in (says-value 7 (omega arith) refl t7) in
        let s6 : same_z (Lists.at z 6) (pos 0) ≡ false = rw t6 at r.spaced.0 in
        let s7 : same_z (Lists.at z 7) (pos 0) ≡ false = rw t7 at r.spaced.1 in
        record {
          number = natural-is (number_at (says v) 0) 1022 number_is;
          shown = ap (λ (y : ℤ). same_z y (pos 0)) v3 ∙ (rw t3 at r.shown);
          method = ap (λ (y : ℤ). same_z y (pos 0)) v60 ∙ not-false _ (rw t60 at r.method);
          north = says-value 4 (omega arith) refl t4;
          east = says-value 5 (omega arith) refl t5;
          rows = v6;
          columns = v7;
          spaced = (λ x. same_z (v6 x) (pos 0) || same_z (v7 x) (pos 0)) ∙ rw (s6, s7);
          mean = says-mean z b wanted m;
          sixteen = length-up_to (λ i. shifts_at (says v) (11 + 3 * i)) 16;
          node = λ k l. node_of k l;
        }

    module _ (i j : ℕ) (row_of_lem : i ≤ 3) (column : j ≤ 3) (turns north east : ℤ) (q : north ≡ steps_at z 4 (pos 3 -ℤ pos (2 * i))) (r : east ≡ steps_at z 5 (pos (2 * j) -ℤ pos 3) +ℤ turns *ℤ pos turn) (bound : beyond (pos 1023) north east ≡ false) where
      abbrev s : List ℕ
      s = message v

      kind : kind_refusal 1023 1024 s ≡ 0
      kind =
          let k = number-back zs bs n written in
          sym (kind-read 1023 1024 s (message-accepted zs bs n written) (omega (arith, k, number_is)) (omega (arith, k, number_is))).0

      abbrev g : Grid
      g = grid_of (says (row s))

      facts-of : Facts z wanted m g
      facts-of = subst (λ (w : List (Option ℤ)). Facts z wanted m (grid_of (says w))) (sym (row-of-message zs bs n written)) facts

      answer : message_shift s 2 north east ≡ outcome (pos 1023) 2 0 (pos 10 *ℤ Lists.at wanted (4 * i + j))
      unfolding message_shift shift_with
      answer =
          let h = message-fields s 2 north east kind in
          let o = inside z wanted m g facts-of h i j row_of_lem column turns north east q r bound in
          let c = count z wanted m g facts-of h i j row_of_lem column turns north east q r bound in
          let k = sym (message-passed s 2 north east kind) ∙ o in
          λ x. outcome (facts-of.number x) 2 (k x) (c x)

      with-mean : Gives (message_shifts (heights_message z b wanted) north east) (Lists.at wanted (4 * i + j))
      unfolding message_shifts three_of outcome answer_of float_of same_z
      with-mean =
          subst (λ (l : List ℕ). Gives (message_shifts l north east) (Lists.at wanted (4 * i + j))) (message-is z b wanted m f)
          (record {
            refusal = ap (λ (w : Shift). w.refusal) answer;
            count = ap (λ (w : Shift). w.count) answer;
            metres = ap (λ (w : Shift). float_of w.answer) answer ∙ metres-is (Lists.at wanted (4 * i + j)) (height-most wanted m (smallest wanted m f) (4 * i + j) (omega arith));
          })

  -- no refusal, so there is a mean
  some-mean : NoneFits wanted → ⊥
  some-mean h =
      let c = counted_of z b wanted tests.0 in
      let k = (no-mean-exactly z b wanted n).always c.0 c.1 h in
      absurd (omega (arith, k, e))

pub gives-wanted : GivesWanted
gives-wanted z b wanted n e i j row column turns north east q r bound =
    ⊎_elim
    (λ (p : (m : ℤ) × (smallest_mean wanted ≡ Some m)). with-mean z b wanted n e p.0 p.1 i j row column turns north east q r bound)
    (λ (h : NoneFits wanted). absurd (some-mean z b wanted n e h))
    (found-or-none wanted)
