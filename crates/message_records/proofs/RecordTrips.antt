-- Both round trips of records, for each kind: an accepted message, read as a record and written again, gives the same bytes,
-- and a record that is written reads back as itself. They rest on the round trips of rows and on the inverse laws of records.
-- Assumes nothing.
use Rattle.std.proofs.Common.{Option}
use Prim.Native.Nat.{ℕ, ◌+◌, ◌≤◌, ◌<◌}
use native.Mathlib.Omega.{arith}
use native.Mathlib.Nat.{eq-or-lt_of_le}
use mathlib.Core.Logic.{⊎_elim}
use mathlib.Core.Path.{◌≡◌, refl, sym, ap, subst, ◌∙◌}
use mathlib.Core.Bool.{Bool, true, false, not, ◌&&◌}
use mathlib.Core.List.{List, ◌++◌}
use lib.Dec.{leb}
use lib.IntN.{ℤ}
use lib.ListN.{length, get_or}
use borrow.Author.Tests.{leb-true, le-leb}
use Rattle.arith.specs.First.{first}
use Rattle.arith.specs.Whole.{natural}
use Rattle.arith.proofs.First.{passed, not-false}
use Rattle.arith.proofs.Tests.{both_first, both-second}
use Rattle.field.proofs.Bit.{Bytes}
use Rattle.layout.specs.Layout.{signed, row_of}
use Rattle.layout.proofs.Round.{row_in}
use Rattle.layout_tables.specs.Layouts.{names, tail1021, tail1022, layout1021, layout1022, layout_of, layout1023, layout1024, layout1025, layout1026, layout1027}
use Rattle.layout_tables.proofs.Length.{length-1021, length-1022}
use Rattle.record_transformations.specs.declared.Helmert.{Helmert}
use Rattle.record_transformations.specs.declared.MolodenskiBadekas.{MolodenskiBadekas}
use Rattle.record_transformations.specs.Transformations.{good_name, helmert_of, helmert_row, molodenski_badekas_of, molodenski_badekas_row}
use Rattle.record_transformations.proofs.Names as Names
use Rattle.record_transformations.proofs.Inverse.{Unsigned, helmert-of-row, helmert-row-of, molodenski-badekas-of-row, molodenski-badekas-row-of}
use Rattle.record_grids.specs.declared.Grid.{Grid}
use Rattle.record_grids.specs.Grids.{grid_of, grid_row}
use Rattle.record_grids.proofs.Inverse.{grid-of-row, grid-row-of}
use Rattle.record_projections.specs.declared.Projection.{Projection}
use Rattle.record_projections.specs.declared.Lambert.{Lambert}
use Rattle.record_projections.specs.declared.ObliqueMercator.{ObliqueMercator}
use Rattle.record_projections.specs.Projections.{projection_of, projection_row, lambert_of, lambert_row, oblique_mercator_of, oblique_mercator_row}
use Rattle.record_projections.proofs.Inverse.{projection-of-row, projection-row-of, lambert-of-row, lambert-row-of, oblique-mercator-of-row, oblique-mercator-row-of}
use Rattle.record_rows.specs.Numbers.{says, number_at, values_of, present_of}
use Rattle.record_rows.proofs.Rows.{Valued}
use Rattle.message_rows.specs.Message.{number_of, source_count, target_count, layout, refusal, row, kind_refusal, kind_row, row_tests, write_refusal, message, kind_write_refusal}
use Rattle.message_records.specs.Kinds.{read_helmert, read_molodenski_badekas, read_grid, read_projection, read_lambert, read_oblique_mercator}
use Rattle.message_records.proofs.NamedRows.{valued, named-row, behind-valued}
use Rattle.message_rows.proofs.Head.{source-lt, target-lt}
use Rattle.message_rows.proofs.Rows.{length-row}
use Rattle.message_rows.proofs.OneKind.{kind-of, kind-read}
use Rattle.message_rows.proofs.Trips.{message-of-row, row_number, row_written, number-back, message-accepted, row-of-message}

-- ---- one kind, whatever its record

-- an accepted message of the kind, whose row is v: v is written as that message
pub kept : (lo hi : ℕ) (s : List ℕ) (v : List (Option ℤ)) → kind_refusal lo hi s ≡ 0 → Bytes s → v ≡ row s → message v ≡ s
kept lo hi s v e b f = ap message f ∙ message-of-row s (kind-of lo hi s e).accepted b

pub kept-written : (lo hi : ℕ) (s : List ℕ) (v : List (Option ℤ)) (n : ℕ) → kind_refusal lo hi s ≡ 0 → v ≡ row s → length s ≤ n
    → kind_write_refusal lo hi true (values_of v) (present_of v) n ≡ 0
unfolding kind_write_refusal write_refusal
kept-written lo hi s v n e f r =
    let k = kind-of lo hi s e in
    let w : first (row_tests (values_of v) (present_of v) n) ≡ 0 =
    subst (λ (u : List (Option ℤ)). write_refusal (values_of u) (present_of u) n ≡ 0) (sym f) (row_written s k.accepted n r) in
    let m : natural (number_at (says (row_of (values_of v) (present_of v))) 0) ≡ number_of s =
    ap (λ (u : List (Option ℤ)). natural (number_at (says u) 0)) (row_in v ∙ f) ∙ row_number s k.accepted in
    rw (m, le-leb lo (number_of s) k.low, le-leb (number_of s) hi k.high) (rw m at w)

-- what a write answered by 0 says of the row
pub record Fit (lo hi : ℕ) (good : Bool) (v : List (Option ℤ)) (n : ℕ) : Type 0 where
  pub named : good ≡ true
  pub low : lo ≤ natural (number_at (says v) 0)
  pub high : natural (number_at (says v) 0) ≤ hi
  pub written : write_refusal (values_of v) (present_of v) n ≡ 0

pub fit_of : (lo hi : ℕ) (good : Bool) (v : List (Option ℤ)) (n : ℕ) → kind_write_refusal lo hi good (values_of v) (present_of v) n ≡ 0 → Fit lo hi good v n
unfolding kind_write_refusal write_refusal
fit_of lo hi good v n e =
    let k : ℕ = natural (number_at (says (row_of (values_of v) (present_of v))) 0) in
    let q : k ≡ natural (number_at (says v) 0) = ap (λ (u : List (Option ℤ)). natural (number_at (says u) 0)) (row_in v) in
    let a = passed 4 (not good) _ e in
    let b = passed 4 (not (leb lo k && leb k hi)) _ a.1 in
    let c = not-false (leb lo k && leb k hi) b.0 in
    record {
      named = not-false good a.0;
      low = subst (λ (j : ℕ). lo ≤ j) q (leb-true lo k (both_first (leb lo k) (leb k hi) c));
      high = subst (λ (j : ℕ). j ≤ hi) q (leb-true k hi (both-second (leb lo k) (leb k hi) c));
      written = b.1;
    }

-- a row that was written is the row of its message, which is of the kind
pub record Back (lo hi : ℕ) (v : List (Option ℤ)) : Type 0 where
  pub accepted : kind_refusal lo hi (message v) ≡ 0
  pub numbers : kind_row lo hi (message v) ≡ v

pub back : (lo hi : ℕ) (good : Bool) (v : List (Option ℤ)) (n : ℕ) → kind_write_refusal lo hi good (values_of v) (present_of v) n ≡ 0 → Back lo hi v
back lo hi good v n e =
    let f = fit_of lo hi good v n e in
    let z : List ℤ = values_of v in
    let b : List ℕ = present_of v in
    let m : natural (number_at (says v) 0) ≡ number_of (message (row_of z b)) =
    ap (λ (u : List (Option ℤ)). natural (number_at (says u) 0)) (sym (row_in v)) ∙ number-back z b n f.written in
    let d =
    kind-read lo hi (message (row_of z b)) (message-accepted z b n f.written)
    (subst (λ (k : ℕ). lo ≤ k) m f.low) (subst (λ (k : ℕ). k ≤ hi) m f.high) in
    subst (Back lo hi) (row_in v) (record { accepted = sym d.0; numbers = sym d.1 ∙ row-of-message z b n f.written })

-- ---- the layout of a message of each kind: its length, and its unsigned places, which say values

module _ (s : List ℕ) where
  pub layout-at : (k : ℕ) → number_of s ≡ k → layout s ≡ layout_of k (source_count s) (target_count s)
  unfolding layout
  layout-at k e = ap (λ (j : ℕ). layout_of j (source_count s) (target_count s)) e

  -- a kind of one number
  module _ (k : ℕ) (e : kind_refusal k k s ≡ 0) where
    only-layout : layout s ≡ layout_of k (source_count s) (target_count s)
    only-layout = let d = kind-of k k s e in layout-at k (omega (arith, d.low, d.high))

    only-length : (c : ℕ) → length (layout_of k (source_count s) (target_count s)) ≡ c → length (row s) ≡ c
    only-length c l = length-row s (kind-of k k s e).accepted ∙ ap length only-layout ∙ l

    only-valued : (j : ℕ) → signed (get_or (layout_of k (source_count s) (target_count s)) j 0) ≡ false → Valued (says (row s) j)
    only-valued = valued s (layout_of k (source_count s) (target_count s)) (kind-of k k s e).accepted only-layout

  module _ (e : kind_refusal 1023 1024 s ≡ 0) where
    -- what holds of both layouts of a grid
    both : (P : List ℕ → Type 0) → P layout1023 → P layout1024 → P (layout s)
    unfolding layout_of
    both P a b =
        let d = kind-of 1023 1024 s e in
        ⊎_elim
        (λ (q : 1023 ≡ number_of s). subst P (sym (layout-at 1023 (sym q))) a)
        (λ (l : 1023 < number_of s). subst P (sym (layout-at 1024 (omega (arith, d.high)))) b)
        (eq-or-lt_of_le d.low)

    grid-length : length (row s) ≡ 64
    unfolding layout1023 layout1024
    grid-length = length-row s (kind-of 1023 1024 s e).accepted ∙ both (λ (l : List ℕ). length l ≡ 64) refl refl

    grid-valued : (k : ℕ) → signed (get_or layout1023 k 0) ≡ false → signed (get_or layout1024 k 0) ≡ false → Valued (says (row s) k)
    grid-valued k a b = valued s (layout s) (kind-of 1023 1024 s e).accepted refl k (both (λ (l : List ℕ). signed (get_or l k 0) ≡ false) a b)

-- ---- an accepted message, read as a record, has its row again

-- the row of a kind is the message's where it is not refused
kind_row_lem : (lo hi : ℕ) (s : List ℕ) → kind_refusal lo hi s ≡ 0 → kind_row lo hi s ≡ row s
kind_row_lem lo hi s e = let d = kind-of lo hi s e in sym (kind-read lo hi s d.accepted d.low d.high).1

-- the unsigned places of a message with names
helmert-unsigned : (s : List ℕ) → refusal s ≡ 0 → layout s ≡ names (source_count s) (target_count s) ++ tail1021 → Unsigned (says (row s)) (3 + source_count s + target_count s) 16
unfolding tail1021
helmert-unsigned s e f =
    let u = behind-valued s e tail1021 f in
    record {
      number = valued s (names (source_count s) (target_count s) ++ tail1021) e f 0 refl;
      sin = u 0 refl;
      messages = u 1 refl;
      plate = u 2 refl;
      computation = u 3 refl;
      height = u 4 refl;
      north = u 7 refl;
      east = u 8 refl;
      source-major = u 16 refl;
      source-minor = u 17 refl;
      target-major = u 18 refl;
      target-minor = u 19 refl;
      horizontal = u 20 refl;
      vertical = u 21 refl;
    }

molodenski-badekas-unsigned : (s : List ℕ) → refusal s ≡ 0 → layout s ≡ names (source_count s) (target_count s) ++ tail1022 → Unsigned (says (row s)) (3 + source_count s + target_count s) 19
unfolding tail1022
molodenski-badekas-unsigned s e f =
    let u = behind-valued s e tail1022 f in
    record {
      number = valued s (names (source_count s) (target_count s) ++ tail1022) e f 0 refl;
      sin = u 0 refl;
      messages = u 1 refl;
      plate = u 2 refl;
      computation = u 3 refl;
      height = u 4 refl;
      north = u 7 refl;
      east = u 8 refl;
      source-major = u 19 refl;
      source-minor = u 20 refl;
      target-major = u 21 refl;
      target-minor = u 22 refl;
      horizontal = u 23 refl;
      vertical = u 24 refl;
    }

pub helmert-row : (s : List ℕ) → kind_refusal 1021 1021 s ≡ 0 → helmert_row (helmert_of (says (kind_row 1021 1021 s))) ≡ row s
helmert-row s e =
    let n : ℕ = source_count s in
    let m : ℕ = target_count s in
    let a = (kind-of 1021 1021 s e).accepted in
    let f : layout s ≡ names n m ++ tail1021 = only-layout s 1021 e ∙ unfold layout_of layout1021 in refl in
    let r = named-row s a tail1021 f in
    ap (λ (v : List (Option ℤ)). helmert_row (helmert_of (says v))) (kind_row_lem 1021 1021 s e)
    ∙ helmert-row-of (row s) n m (omega (arith, source-lt s)) (omega (arith, target-lt s)) r.source r.target r.source_chars r.target_chars
    (only-length s 1021 e (25 + n + m) (unfold layout_of in length-1021 n m)) (helmert-unsigned s a f)

pub molodenski-badekas-row : (s : List ℕ) → kind_refusal 1022 1022 s ≡ 0 → molodenski_badekas_row (molodenski_badekas_of (says (kind_row 1022 1022 s))) ≡ row s
molodenski-badekas-row s e =
    let n : ℕ = source_count s in
    let m : ℕ = target_count s in
    let a = (kind-of 1022 1022 s e).accepted in
    let f : layout s ≡ names n m ++ tail1022 = only-layout s 1022 e ∙ unfold layout_of layout1022 in refl in
    let r = named-row s a tail1022 f in
    ap (λ (v : List (Option ℤ)). molodenski_badekas_row (molodenski_badekas_of (says v))) (kind_row_lem 1022 1022 s e)
    ∙ molodenski-badekas-row-of (row s) n m (omega (arith, source-lt s)) (omega (arith, target-lt s)) r.source r.target r.source_chars r.target_chars
    (only-length s 1022 e (28 + n + m) (unfold layout_of in length-1022 n m)) (molodenski-badekas-unsigned s a f)

pub grid-row : (s : List ℕ) → kind_refusal 1023 1024 s ≡ 0 → grid_row (grid_of (says (kind_row 1023 1024 s))) ≡ row s
unfolding layout1023 layout1024
grid-row s e =
    let u = grid-valued s e in
    ap (λ (v : List (Option ℤ)). grid_row (grid_of (says v))) (kind_row_lem 1023 1024 s e)
    ∙ grid-row-of (row s) (grid-length s e)
    (record {
      number = u 0 refl refl;
      sin = u 1 refl refl;
      indicators = record { horizontal = u 2 refl refl; vertical = u 3 refl refl };
      spacing = record { north = u 6 refl refl; east = u 7 refl refl };
      methods = record { horizontal = u 59 refl refl; vertical = u 60 refl refl };
      quality = record { horizontal = u 61 refl refl; vertical = u 62 refl refl };
      day = u 63 refl refl;
    })

pub projection-row : (s : List ℕ) → kind_refusal 1025 1025 s ≡ 0 → projection_row (projection_of (says (kind_row 1025 1025 s))) ≡ row s
unfolding layout_of layout1025
projection-row s e =
    let u = only-valued s 1025 e in
    ap (λ (v : List (Option ℤ)). projection_row (projection_of (says v))) (kind_row_lem 1025 1025 s e)
    ∙ projection-row-of (row s) (only-length s 1025 e 8 refl) (record { number = u 0 refl; sin = u 1 refl; projection = u 2 refl; scale = u 5 refl; easting = u 6 refl })

pub lambert-row : (s : List ℕ) → kind_refusal 1026 1026 s ≡ 0 → lambert_row (lambert_of (says (kind_row 1026 1026 s))) ≡ row s
unfolding layout_of layout1026
lambert-row s e =
    let u = only-valued s 1026 e in
    ap (λ (v : List (Option ℤ)). lambert_row (lambert_of (says v))) (kind_row_lem 1026 1026 s e)
    ∙ lambert-row-of (row s) (only-length s 1026 e 9 refl) (record { number = u 0 refl; sin = u 1 refl; projection = u 2 refl; easting = u 7 refl })

pub oblique-mercator-row : (s : List ℕ) → kind_refusal 1027 1027 s ≡ 0 → oblique_mercator_row (oblique_mercator_of (says (kind_row 1027 1027 s))) ≡ row s
unfolding layout_of layout1027
oblique-mercator-row s e =
    let u = only-valued s 1027 e in
    ap (λ (v : List (Option ℤ)). oblique_mercator_row (oblique_mercator_of (says v))) (kind_row_lem 1027 1027 s e)
    ∙ oblique-mercator-row-of (row s) (only-length s 1027 e 11 refl)
    (record { number = u 0 refl; sin = u 1 refl; projection = u 2 refl; rectified = u 3 refl; azimuth = u 6 refl; scale = u 8 refl; easting = u 9 refl })

-- ---- a record that is written reads back as itself

module _ (n : ℕ) where
  pub helmert-back : (r : Helmert) → length r.source.chars ≡ 31 → length r.target.chars ≡ 31 → Names.Bytes r.source → Names.Bytes r.target
      → kind_write_refusal 1021 1021 (good_name r.source && good_name r.target) (values_of (helmert_row r)) (present_of (helmert_row r)) n ≡ 0
      → read_helmert (message (helmert_row r)) ≡ record { refusal = 0; value = r }
  unfolding read_helmert
  helmert-back r l l' b b' e =
      let g = (fit_of 1021 1021 (good_name r.source && good_name r.target) (helmert_row r) n e).named in
      let k = back 1021 1021 (good_name r.source && good_name r.target) (helmert_row r) n e in
      λ i. record {
        refusal = k.accepted i;
        value = (ap (λ (v : List (Option ℤ)). helmert_of (says v)) k.numbers ∙ helmert-of-row r l l' b b' (both_first _ _ g) (both-second (good_name r.source) _ g)) i;
      }

  pub molodenski-badekas-back : (r : MolodenskiBadekas) → length r.source.chars ≡ 31 → length r.target.chars ≡ 31 → Names.Bytes r.source → Names.Bytes r.target
      → kind_write_refusal 1022 1022 (good_name r.source && good_name r.target) (values_of (molodenski_badekas_row r)) (present_of (molodenski_badekas_row r)) n ≡ 0
      → read_molodenski_badekas (message (molodenski_badekas_row r)) ≡ record { refusal = 0; value = r }
  unfolding read_molodenski_badekas
  molodenski-badekas-back r l l' b b' e =
      let g = (fit_of 1022 1022 (good_name r.source && good_name r.target) (molodenski_badekas_row r) n e).named in
      let k = back 1022 1022 (good_name r.source && good_name r.target) (molodenski_badekas_row r) n e in
      λ i. record {
        refusal = k.accepted i;
        value = (ap (λ (v : List (Option ℤ)). molodenski_badekas_of (says v)) k.numbers ∙ molodenski-badekas-of-row r l l' b b' (both_first _ _ g) (both-second (good_name r.source) _ g)) i;
      }

  pub grid-back : (r : Grid) → length r.nodes ≡ 16 → kind_write_refusal 1023 1024 true (values_of (grid_row r)) (present_of (grid_row r)) n ≡ 0
      → read_grid (message (grid_row r)) ≡ record { refusal = 0; value = r }
  unfolding read_grid
  grid-back r l e =
      let k = back 1023 1024 true (grid_row r) n e in
      λ i. record { refusal = k.accepted i; value = (ap (λ (v : List (Option ℤ)). grid_of (says v)) k.numbers ∙ grid-of-row r l) i }

  pub projection-back : (r : Projection) → kind_write_refusal 1025 1025 true (values_of (projection_row r)) (present_of (projection_row r)) n ≡ 0
      → read_projection (message (projection_row r)) ≡ record { refusal = 0; value = r }
  unfolding read_projection
  projection-back r e =
      let k = back 1025 1025 true (projection_row r) n e in
      λ i. record { refusal = k.accepted i; value = (ap (λ (v : List (Option ℤ)). projection_of (says v)) k.numbers ∙ projection-of-row r) i }

  pub lambert-back : (r : Lambert) → kind_write_refusal 1026 1026 true (values_of (lambert_row r)) (present_of (lambert_row r)) n ≡ 0
      → read_lambert (message (lambert_row r)) ≡ record { refusal = 0; value = r }
  unfolding read_lambert
  lambert-back r e =
      let k = back 1026 1026 true (lambert_row r) n e in
      λ i. record { refusal = k.accepted i; value = (ap (λ (v : List (Option ℤ)). lambert_of (says v)) k.numbers ∙ lambert-of-row r) i }

  pub oblique-mercator-back : (r : ObliqueMercator) → kind_write_refusal 1027 1027 true (values_of (oblique_mercator_row r)) (present_of (oblique_mercator_row r)) n ≡ 0
      → read_oblique_mercator (message (oblique_mercator_row r)) ≡ record { refusal = 0; value = r }
  unfolding read_oblique_mercator
  oblique-mercator-back r e =
      let k = back 1027 1027 true (oblique_mercator_row r) n e in
      λ i. record { refusal = k.accepted i; value = (ap (λ (v : List (Option ℤ)). oblique_mercator_of (says v)) k.numbers ∙ oblique-mercator-of-row r) i }
