-- "Not available is not a number" holds: each statement of specs/Absent.antt, from the laws of layouts, of message rows and of the orders of refusals.
-- Assumes nothing.
use Rattle.std.proofs.Common.{Option, Some, None}
use Prim.Native.Nat.{ℕ, zero, suc, ◌+◌, ◌-◌, ◌*◌, ◌/◌, ◌^◌, ◌<◌}
use native.Mathlib.Omega.{arith}
use native.Mathlib.Nat.{le_of_suc-le-suc, not-suc-le-zero}
use mathlib.Core.Path.{◌≡◌, refl, sym, ap, subst, ◌∙◌}
use mathlib.Core.Bool.{Bool, true, false, true≢false, not, cond, ◌&&◌, ◌||◌}
use mathlib.Core.List.{List, [], ◌∷◌}
use mathlib.Core.Logic.{◌⊎◌, inl, inr}
use borrow.Author.Tests.{eq-eqb, ne_eqb, eqb-true, le-ltb}
use lib.Dec.{eqb, leb}
use lib.IntN.{ℤ, pos, neg_ℤ, nat_abs}
use lib.ListN.{length, get_or}
use Rattle.arith.specs.First.{first}
use Rattle.arith.specs.Lists.{at}
use Rattle.arith.specs.Whole.{natural}
use Rattle.arith.proofs.First.{passed, passes, or-false, not-false}
use Rattle.field.specs.Field.{signed_of, twos}
use Rattle.layout.specs.Layout.{width, signed, value_in, present_in, available, place_takes, row_takes, row_of, answered}
use Rattle.layout.specs.Inner.{encode_refusal}
use Rattle.layout.proofs.Round.{row_in, unsigned-value}
use Rattle.layout_writer.proofs.Answer.{write-range}
use Rattle.layout_tables.specs.Layouts.{known}
use Rattle.record_transformations.specs.Transformations.{name_at, system_at, area_at, parameters_at, point_at, ellipsoids_at, helmert_of, helmert_row, molodenski_badekas_of, molodenski_badekas_row}
use Rattle.record_grids.specs.declared.Grid.{Grid}
use Rattle.record_grids.specs.Grids.{origin_at, spacing_at, shifts_at, nodes_at, grid_of, grid_row, settings_of}
use Rattle.grid_refusals.specs.Refusals.{field_tests}
use Rattle.record_projections.specs.Projections.{projection_of, projection_row, lambert_of, lambert_row, oblique_mercator_of, oblique_mercator_row}
use Rattle.record_rows.specs.Numbers.{says, number_at, values_of, present_of, pair_at}
use Rattle.message_rows.specs.Message.{tests, number_of, row, layout, kind_refusal, kind_row, row_layout, row_tests, write_refusal, of_kind, kind_write_refusal, write_kind}
use Rattle.message_rows.proofs.Trips.{row-taken, row-place}
use Rattle.message_rows.proofs.Rows.{row-layout-most}
use Rattle.message_records.specs.Kinds.{read_helmert, read_molodenski_badekas, read_grid, read_projection, read_lambert, read_oblique_mercator, good_names}
use Rattle.grid_bilinear.specs.Bilinear.{cell, outside, lacks, absent_in, absent}
use Rattle.grid_place.specs.Position.{height_of, width_of, north_from, east_from}
use Rattle.grid_shifts.specs.Shift.{part, node_of, surface, north_of, east_of, grid_tests, shift_refusal, outcome, shift_with, message_shift}
use Rattle.demands_grids.specs.Grids.{AnsweredAt, grid_at, surface_at, north_steps, east_steps}
use Rattle.demands_grids.specs.Absent.{NoneIsThePattern, bits_at, AcceptedNone, UnsignedHasValue, PatternRefused, PatternPresent, RecordPatternRefused, helmert0, molodenski_badekas0, grid0, projection0, lambert0, oblique_mercator0, RefusedIsZero, HasValue, Formed, MeanFormed}

pub none-is-the-pattern : NoneIsThePattern
unfolding signed_of
none-is-the-pattern w u =
    record { none = λ e. rw (eq-eqb u (2 ^ w / 2) e); pattern = λ e. by (eqb u (2 ^ w / 2)) refl e }
  where
    by : (b : Bool) → eqb u (2 ^ w / 2) ≡ b → cond b None (Some (twos w u)) ≡ None → u ≡ 2 ^ w / 2
    by true q e = eqb-true u (2 ^ w / 2) q
    by false q e = let z : ◌≡◌ {A = ℕ} 0 1 = cc in absurd (omega arith)

pub accepted-none : AcceptedNone
accepted-none s k e h g =
    let w : ℕ = width (get_or (layout s) k 0) in
    let says-it : says (row s) k ≡ signed_of w (bits_at s k) = row-place s e k h ∙ ap (λ (b : Bool). cond b (signed_of w (bits_at s k)) (Some (pos (bits_at s k)))) g in
    let n = none-is-the-pattern w (bits_at s k) in
    record { none = λ q. says-it ∙ n.none q; pattern = λ q. n.pattern (sym says-it ∙ q) }

pub unsigned-has-value : UnsignedHasValue
unsigned-has-value s k e g a =
    let v = unsigned-value (layout s) (row s) (row-taken s e) k g in
    let z : ◌≡◌ {A = ℕ} 0 1 = cc in
    omega arith

-- ---- a present pattern

size-of-opposite : (m : ℕ) → nat_abs (neg_ℤ (pos m)) ≡ m
size-of-opposite zero = refl
size-of-opposite (suc m) = refl

pattern-not-taken : (e : ℕ) (z : ℤ) (b : ℕ) → signed e ≡ true → b ≡ 1 → z ≡ neg_ℤ (pos (2 ^ width e / 2)) → place_takes e z b ≡ false
unfolding place_takes
pattern-not-taken e z b g p q = rw (p, q, g, size-of-opposite (2 ^ width e / 2), le-ltb (2 ^ width e / 2) (2 ^ width e / 2) (omega arith))

and-false : (a : Bool) → (a && false) ≡ false
and-false true = refl
and-false false = refl

-- a row with a place that its field does not take
one-not-taken : (es : List ℕ) (z : List ℤ) (b : List ℕ) (k : ℕ) → k < length es → place_takes (get_or es k 0) (at z k) (get_or b k 0) ≡ false → row_takes es z b ≡ false
unfolding row_takes
one-not-taken [] z b k h f = absurd (not-suc-le-zero h)
one-not-taken (e ∷ es) [] b k h f = refl
one-not-taken (e ∷ es) (x ∷ z) [] k h f = refl
one-not-taken (e ∷ es) (x ∷ z) (y ∷ b) zero h f = rw f
one-not-taken (e ∷ es) (x ∷ z) (y ∷ b) (suc k) h f = rw (one-not-taken es z b k (le_of_suc-le-suc h) f) (and-false (place_takes e x y))

range-either-way : (b : Bool) (n : ℕ) → n ≡ 5 → cond b 5 n ≡ 5
range-either-way true n e = refl
range-either-way false n e = e

row-range : (z : List ℤ) (b : List ℕ) (n k : ℕ) → k < length (row_layout (row_of z b)) → signed (get_or (row_layout (row_of z b)) k 0) ≡ true → get_or b k 0 ≡ 1
    → at z k ≡ neg_ℤ (pos (2 ^ width (get_or (row_layout (row_of z b)) k 0) / 2)) → first (row_tests z b n) ≡ 5
unfolding encode_refusal
row-range z b n k h g p q =
    let v : List (Option ℤ) = row_of z b in
    let f = one-not-taken (row_layout v) z b k h (pattern-not-taken (get_or (row_layout v) k 0) (at z k) (get_or b k 0) g p q) in
    range-either-way (not (known (natural (number_at (says v) 0)))) _
    (write-range (row_layout v) z b n (omega (arith, row-layout-most v)) f)

pub pattern-refused : PatternRefused
unfolding write_refusal answered
pattern-refused z b out k h g p q = row-range z b (length out) k h g p q

-- the buffers of a row at a place with a value
value_of : (v : List (Option ℤ)) (k : ℕ) (z : ℤ) → k < length v → says v k ≡ Some z → (at (values_of v) k ≡ z) × (get_or (present_of v) k 0 ≡ 1)
value_of [] k z h e = absurd (not-suc-le-zero h)
value_of (r ∷ v) zero z h e = (ap value_in e, ap present_in e)
value_of (r ∷ v) (suc k) z h e = value_of v k z (le_of_suc-le-suc h) e

-- no place behind a layout is signed
signed_below : (es : List ℕ) (k : ℕ) → signed (get_or es k 0) ≡ true → k < length es
signed_below [] k e = absurd (true≢false (sym e))
signed_below (x ∷ es) zero e = omega arith
signed_below (x ∷ es) (suc k) e = let h = signed_below es k e in omega arith

-- a row whose field has a value equal to its pattern
pattern-row : (v : List (Option ℤ)) (n : ℕ) → PatternPresent v → first (row_tests (values_of v) (present_of v) n) ≡ 5
pattern-row v n p = by (row_of (values_of v) (present_of v)) (row_in v) (row-range (values_of v) (present_of v) n p.place)
  where
    by : (u : List (Option ℤ)) → u ≡ v
        → (p.place < length (row_layout u) → signed (get_or (row_layout u) p.place 0) ≡ true → get_or (present_of v) p.place 0 ≡ 1
        → at (values_of v) p.place ≡ neg_ℤ (pos (2 ^ width (get_or (row_layout u) p.place 0) / 2)) → first (row_tests (values_of v) (present_of v) n) ≡ 5)
        → first (row_tests (values_of v) (present_of v) n) ≡ 5
    by u e f =
        let k : ℕ = p.place in
        let b = value_of v k _ p.below p.value in
        let g : signed (get_or (row_layout u) k 0) ≡ true = subst (λ (t : List (Option ℤ)). signed (get_or (row_layout t) k 0) ≡ true) (sym e) p.signed in
        f (signed_below (row_layout u) k g)
        g
        b.1
        (subst (λ (t : List (Option ℤ)). at (values_of v) k ≡ neg_ℤ (pos (2 ^ width (get_or (row_layout t) k 0) / 2))) (sym e) b.0)

-- a record whose kind has the numbers lo to hi
kind-range : (lo hi : ℕ) (good : Bool) (v : List (Option ℤ)) (out : List ℕ) → PatternPresent v → (write_kind lo hi good (values_of v) (present_of v) out).answer.refusal ≡ 5
unfolding kind_write_refusal answered
kind-range lo hi good v out p =
    let f = pattern-row v (length out) p in
    range-either-way (not good) _ (range-either-way (not (of_kind lo hi (row_of (values_of v) (present_of v)))) _ f)

pub record-pattern-refused : (out : List ℕ) → RecordPatternRefused out
record-pattern-refused out =
    record {
      helmert = λ r p. kind-range 1021 1021 (good_names r.source r.target) (helmert_row r) out p;
      molodenski_badekas = λ r p. kind-range 1022 1022 (good_names r.source r.target) (molodenski_badekas_row r) out p;
      grid = λ r p. kind-range 1023 1024 true (grid_row r) out p;
      projection = λ r p. kind-range 1025 1025 true (projection_row r) out p;
      lambert = λ r p. kind-range 1026 1026 true (lambert_row r) out p;
      oblique_mercator = λ r p. kind-range 1027 1027 true (oblique_mercator_row r) out p;
    }

-- ---- refused records

none_row : (lo hi : ℕ) (s : List ℕ) → (kind_refusal lo hi s ≡ 0 → ⊥) → kind_row lo hi s ≡ []
unfolding kind_row
none_row lo hi s h = rw (ne_eqb (kind_refusal lo hi s) 0 h)

-- the record of no row
helmert-zero : helmert_of (says []) ≡ helmert0
unfolding helmert_of name_at system_at area_at parameters_at ellipsoids_at pair_at
helmert-zero = refl

molodenski-badekas-zero : molodenski_badekas_of (says []) ≡ molodenski_badekas0
unfolding molodenski_badekas_of name_at system_at area_at parameters_at point_at ellipsoids_at pair_at
molodenski-badekas-zero = refl

grid-zero : grid_of (says []) ≡ grid0
unfolding grid_of origin_at spacing_at shifts_at nodes_at pair_at
grid-zero = refl

projection-zero : projection_of (says []) ≡ projection0
unfolding projection_of
projection-zero = refl

lambert-zero : lambert_of (says []) ≡ lambert0
unfolding lambert_of
lambert-zero = refl

oblique-mercator-zero : oblique_mercator_of (says []) ≡ oblique_mercator0
unfolding oblique_mercator_of
oblique-mercator-zero = refl

pub refused-is-zero : (s : List ℕ) → RefusedIsZero s
refused-is-zero s =
    record {
      helmert = λ h. unfold read_helmert in ap (λ (v : List (Option ℤ)). helmert_of (says v)) (none_row 1021 1021 s h) ∙ helmert-zero;
      molodenski_badekas = λ h. unfold read_molodenski_badekas in ap (λ (v : List (Option ℤ)). molodenski_badekas_of (says v)) (none_row 1022 1022 s h) ∙ molodenski-badekas-zero;
      grid = λ h. unfold read_grid in ap (λ (v : List (Option ℤ)). grid_of (says v)) (none_row 1023 1024 s h) ∙ grid-zero;
      projection = λ h. unfold read_projection in ap (λ (v : List (Option ℤ)). projection_of (says v)) (none_row 1025 1025 s h) ∙ projection-zero;
      lambert = λ h. unfold read_lambert in ap (λ (v : List (Option ℤ)). lambert_of (says v)) (none_row 1026 1026 s h) ∙ lambert-zero;
      oblique_mercator = λ h. unfold read_oblique_mercator in ap (λ (v : List (Option ℤ)). oblique_mercator_of (says v)) (none_row 1027 1027 s h) ∙ oblique-mercator-zero;
    }

-- ---- the mean

value-has : (r : Option ℤ) → available r ≡ true → HasValue r
value-has (Some z) e = record { value = z; is = refl }
value-has None e = absurd (true≢false (sym e))

-- a node that does not lack has no weight or a value
corner : (weight : ℕ) (r : Option ℤ) → lacks weight (available r) ≡ false → (weight ≡ 0) ⊎ HasValue r
unfolding lacks
corner weight (Some z) e = inr (record { value = z; is = refl })
corner weight None e = by (eqb weight 0) refl e
  where
    by : (b : Bool) → eqb weight 0 ≡ b → (not b && true) ≡ false → (weight ≡ 0) ⊎ HasValue None
    by true q e = inl (eqb-true weight 0 q)
    by false q e = absurd (true≢false e)

formed : (g : Grid) (c k l y x : ℕ) → absent_in (surface g c) k l y x ≡ false → Formed g c k l (y - k * (surface g c).H) (x - l * (surface g c).W)
unfolding absent_in surface
formed g c k l y x e =
    let h : ℕ = (surface g c).H in
    let w : ℕ = (surface g c).W in
    let b : ℕ = y - k * h in
    let a : ℕ = x - l * w in
    let sw : Bool = lacks ((w - a) * (h - b)) (available (node_of g.nodes c (3 - k) l)) in
    let se : Bool = lacks (a * (h - b)) (available (node_of g.nodes c (3 - k) (l + 1))) in
    let nw : Bool = lacks ((w - a) * b) (available (node_of g.nodes c (2 - k) l)) in
    let ne : Bool = lacks (a * b) (available (node_of g.nodes c (2 - k) (l + 1))) in
    let m : Bool = not (available (part c g.mean)) in
    let p = or-false (m || sw || se || nw) ne e in
    let q = or-false (m || sw || se) nw p.0 in
    let r = or-false (m || sw) se q.0 in
    let z = or-false m sw r.0 in
    record {
      mean = value-has (part c g.mean) (not-false (available (part c g.mean)) z.0);
      sw = corner ((w - a) * (h - b)) (node_of g.nodes c (3 - k) l) z.1;
      se = corner (a * (h - b)) (node_of g.nodes c (3 - k) (l + 1)) r.1;
      nw = corner ((w - a) * b) (node_of g.nodes c (2 - k) l) q.1;
      ne = corner (a * b) (node_of g.nodes c (2 - k) (l + 1)) p.1;
    }

none-absent : (s : List ℕ) (c : ℕ) (n e : ℤ) → AnsweredAt s c n e → absent (surface_at s c) (north_of (grid_at s) n) (east_of (grid_at s) e) ≡ false
unfolding message_shift shift_with outcome shift_refusal
none-absent s c n e h =
    let g = grid_at s in
    let k : Bool = not (leb 1023 (number_of s) && leb (number_of s) 1024) in
    let o : Bool = outside (height_of (settings_of g)) (north_from (settings_of g) n) || outside (width_of (settings_of g)) (east_from (settings_of g) e) in
    let m : Bool = absent (surface_at s c) (north_of g n) (east_of g e) in
    let a = (passes (tests s) ((7, k) ∷ grid_tests g c n e) tt h).1 in
    let b = (passed 6 k (first (grid_tests g c n e)) a).1 in
    let d = (passes (field_tests (settings_of g) c n e) ((14, o) ∷ (15, m) ∷ []) tt b).1 in
    (passed 14 m 0 (passed 13 o (cond m 15 0) d).1).0

pub mean-formed : MeanFormed
unfolding absent
mean-formed s c n e h =
    let g = grid_at s in
    formed g c (cell (surface g c).H (north_steps g c n)) (cell (surface g c).W (east_steps g c e)) (north_steps g c n) (east_steps g c e) (none-absent s c n e h)
