-- Both round trips hold of rows and of each kind of record, and the writers' refusals are 5 and 6 in this order. Rests on the laws of rows and of records.
-- Assumes nothing.
use Rattle.std.proofs.Common.{Option}
use Prim.Native.Nat.{ℕ, suc, ◌≤◌, ◌<◌}
use native.Mathlib.Omega.{arith}
use native.Mathlib.Decide.{ℕ_discrete}
use mathlib.Core.Path.{◌≡◌, refl, sym, ap, subst, ◌∙◌}
use mathlib.Core.Bool.{Bool, true, false, not, cond, ◌||◌, ◌&&◌}
use mathlib.Core.List.{List, [], ◌∷◌, ◌++◌}
use lib.Dec.{ltb}
use lib.IntN.{ℤ}
use lib.ListN.{length}
use borrow.Author.Tests.{ne_eqb, ltb-false}
use Rattle.arith.specs.First.{first}
use Rattle.arith.proofs.First.{passed, not-false}
use Rattle.arith.specs.Whole.{natural}
use Rattle.record_rows.specs.Numbers.{says, number_at, values_of, present_of}
use Rattle.layout.specs.Layout.{size, row_of, row_takes, answered, stored}
use Rattle.layout.proofs.Round.{row_in}
use Rattle.layout_tables.specs.Layouts.{known}
use Rattle.record_transformations.specs.Transformations.{good_name, helmert_of, helmert_row, molodenski_badekas_of, molodenski_badekas_row}
use Rattle.record_transformations.specs.declared.Name.{Name}
use Rattle.record_transformations.specs.declared.Helmert.{Helmert}
use Rattle.record_transformations.specs.declared.MolodenskiBadekas.{MolodenskiBadekas}
use Rattle.record_transformations.proofs.Inverse.{helmert-good, molodenski-badekas-good}
use Rattle.record_grids.specs.Grids.{grid_row}
use Rattle.record_projections.specs.Projections.{projection_row, lambert_row, oblique_mercator_row}
use Rattle.message_rows.specs.Message.{layout, refusal, row, row_layout, write_refusal, message, Outcome, outcome_of, write_row, of_kind, kind_row, kind_write_refusal, write_kind}
use Rattle.message_rows.proofs.Trips.{message-of-row, row_written, message-accepted, buffers-of-message, length-message, layout-back}
use Rattle.message_records.specs.Kinds.{read_helmert, read_molodenski_badekas, read_grid, read_projection, read_lambert, read_oblique_mercator, write_helmert, write_molodenski_badekas, write_grid, write_projection, write_lambert, write_oblique_mercator}
use Rattle.message_records.proofs.RecordTrips.{kept, kept-written, fit_of, helmert-row, molodenski-badekas-row, grid-row, projection-row, lambert-row, oblique-mercator-row, helmert-back, molodenski-badekas-back, grid-back, projection-back, lambert-back, oblique-mercator-back}
use Rattle.demands_messages.specs.Messages.{Bytes, written, unwritten, Back, Ordered, RoundTrips, Buffers, buffers_in, write_buffers, NameBytes, BothTrips}

-- ---- what an outcome is

done : (n : ℕ) (m out : List ℕ) → n ≡ 0 → outcome_of n m out ≡ written m out
unfolding answered stored
done n m out e = rw e

undone : (n : ℕ) (m out : List ℕ) → (n ≡ 0 → ⊥) → outcome_of n m out ≡ unwritten n out
unfolding answered stored
undone n m out f = rw (ne_eqb n 0 f)

-- the refusal number of an outcome
zero : (n : ℕ) (m out : List ℕ) → (outcome_of n m out).answer.refusal ≡ 0 → n ≡ 0
unfolding answered
zero n m out e = e

-- ---- 5, 6

-- three tests for RANGE before ROOM
threes : (a b c : Bool) (x : ℕ) → cond a 5 (cond b 5 (cond c 5 x)) ≡ cond (a || b || c) 5 x
threes true b c x = refl
threes false true c x = refl
threes false false c x = refl

fives : (g k a b c : Bool) (x : ℕ) → cond g 5 (cond k 5 (cond a 5 (cond b 5 (cond c 5 x)))) ≡ cond (g || k || a || b || c) 5 x
fives true k a b c x = refl
fives false true a b c x = refl
fives false false a b c x = threes a b c x

-- the room that an answer 0 tells of
has_room_lem : (r : Bool) (n k : ℕ) → first ((5, r) ∷ (6, ltb n k) ∷ []) ≡ 0 → k ≤ n
has_room_lem r n k e =
    let a = passed 4 r _ e in
    let b = passed 5 (ltb n k) _ a.1 in
    ltb-false n k b.0

module _ (z : List ℤ) (b : List ℕ) where
  row-range : Bool
  row-range = not (known (natural (number_at (says (row_of z b)) 0))) || ltb 96 (length (row_layout (row_of z b))) || not (row_takes (row_layout (row_of z b)) z b)

  row_number : (n : ℕ) → write_refusal z b n ≡ first ((5, row-range) ∷ (6, ltb n (size (row_layout (row_of z b)))) ∷ [])
  unfolding write_refusal row-range
  row_number n = threes (not (known (natural (number_at (says (row_of z b)) 0)))) (ltb 96 (length (row_layout (row_of z b)))) (not (row_takes (row_layout (row_of z b)) z b)) _

  row-order : Ordered (λ out. write_row z b out)
  unfolding answered
  row-order =
      record {
        range = row-range;
        length = size (row_layout (row_of z b));
        number = λ out. row_number (length out);
        kept = λ out f. undone (write_refusal z b (length out)) (message (row_of z b)) out f;
      }

  module _ (lo hi : ℕ) (good : Bool) where
    kind-range : Bool
    kind-range = not good || not (of_kind lo hi (row_of z b)) || not (known (natural (number_at (says (row_of z b)) 0))) || ltb 96 (length (row_layout (row_of z b))) || not (row_takes (row_layout (row_of z b)) z b)

    kind-number : (n : ℕ) → kind_write_refusal lo hi good z b n ≡ first ((5, kind-range) ∷ (6, ltb n (size (row_layout (row_of z b)))) ∷ [])
    unfolding kind_write_refusal kind-range
    kind-number n = fives (not good) (not (of_kind lo hi (row_of z b))) (not (known (natural (number_at (says (row_of z b)) 0)))) (ltb 96 (length (row_layout (row_of z b)))) (not (row_takes (row_layout (row_of z b)) z b)) _

    kind-order : Ordered (λ out. write_kind lo hi good z b out)
    unfolding answered
    kind-order =
        record {
          range = kind-range;
          length = size (row_layout (row_of z b));
          number = λ out. kind-number (length out);
          kept = λ out f. undone (kind_write_refusal lo hi good z b (length out)) (message (row_of z b)) out f;
        }

-- ---- rows

row_back : (b : Buffers) (out : List ℕ) → (write_row b.values b.present out).answer.refusal ≡ 0 → Back refusal buffers_in b out (write_row b.values b.present out)
unfolding answered
row_back b out e =
    let z = b.values in
    let p = b.present in
    let n = length out in
    let d = buffers-of-message z p n e in
    let l = length-message z p n e in
    record {
      bytes = message (row_of z p);
      is = done (write_refusal z p n) (message (row_of z p)) out e;
      room = subst (λ (k : ℕ). k ≤ n) (sym l) (has_room_lem (row-range z p) n (size (row_layout (row_of z p))) (sym (row_number z p n) ∙ e));
      sized = l ∙ ap size (sym (layout-back z p n e));
      accepted = message-accepted z p n e;
      same = λ i. record { values = d.0 i; present = d.1 i };
    }

row-again : (s out : List ℕ) → Bytes s → refusal s ≡ 0 → length s ≤ length out → write_row (values_of (row s)) (present_of (row s)) out ≡ written s out
row-again s out b e h =
    done _ _ out (row_written s e (length out) h) ∙ ap (λ (m : List ℕ). written m out) (ap message (row_in (row s)) ∙ message-of-row s e b)

row-trips : RoundTrips (λ b. Unit {0}) refusal buffers_in write_buffers
row-trips = record { again = row-again; back = λ b out w e. row_back b out e; order = λ b. row-order b.values b.present }

-- ---- a kind whose messages have the numbers lo to hi

-- an accepted message of the kind, whose row is v
kind-again : (lo hi : ℕ) (good : Bool) (s out : List ℕ) (v : List (Option ℤ)) → message v ≡ s → ((n : ℕ) → length s ≤ n → kind_write_refusal lo hi good (values_of v) (present_of v) n ≡ 0)
    → length s ≤ length out → write_kind lo hi good (values_of v) (present_of v) out ≡ written s out
kind-again lo hi good s out v m w h = done _ _ out (w (length out) h) ∙ ap (λ (k : List ℕ). written k out) (ap message (row_in v) ∙ m)

-- a record r with the row v, which its message reads back
kind-back : {R : Type 0} (refused : List ℕ → ℕ) (value : List ℕ → R) (r : R) (lo hi : ℕ) (good : Bool) (v : List (Option ℤ)) (out : List ℕ)
    → kind_write_refusal lo hi good (values_of v) (present_of v) (length out) ≡ 0 → refused (message v) ≡ 0 → value (message v) ≡ r
    → Back refused value r out (write_kind lo hi good (values_of v) (present_of v) out)
kind-back refused value r lo hi good v out e a q =
    let z = values_of v in
    let b = present_of v in
    let n = length out in
    let f = (fit_of lo hi good v n e).written in
    let l = length-message z b n f in
    let i : message (row_of z b) ≡ message v = ap message (row_in v) in
    record {
      bytes = message (row_of z b);
      is = done (kind_write_refusal lo hi good z b n) (message (row_of z b)) out e;
      room = subst (λ (k : ℕ). k ≤ n) (sym l) (has_room_lem (kind-range z b lo hi good) n (size (row_layout (row_of z b))) (sym (kind-number z b lo hi good n) ∙ e));
      sized = l ∙ ap size (sym (layout-back z b n f));
      accepted = ap refused i ∙ a;
      same = ap value i ∙ q;
    }

-- with both names good the writer answers as for a kind without names
named-too : (a b : Name) (lo hi n : ℕ) (v : List (Option ℤ)) → (good_name a ≡ true) × (good_name b ≡ true)
    → kind_write_refusal lo hi true (values_of v) (present_of v) n ≡ 0 → kind_write_refusal lo hi (good_name a && good_name b) (values_of v) (present_of v) n ≡ 0
named-too a b lo hi n v g e = rw (g.0, g.1) e

-- ---- each kind

module _ (r : Helmert) (out : List ℕ) where
  abbrev helmert-named : Bool
  helmert-named = good_name r.source && good_name r.target

  helmert-zero : (write_helmert r out).answer.refusal ≡ 0 → kind_write_refusal 1021 1021 helmert-named (values_of (helmert_row r)) (present_of (helmert_row r)) (length out) ≡ 0
  helmert-zero e = zero (kind_write_refusal 1021 1021 helmert-named (values_of (helmert_row r)) (present_of (helmert_row r)) (length out)) _ out e

helmert-again : (s out : List ℕ) → Bytes s → (read_helmert s).refusal ≡ 0 → length s ≤ length out → write_helmert (read_helmert s).value out ≡ written s out
unfolding read_helmert
helmert-again s out b e h =
    let r : Helmert = helmert_of (says (kind_row 1021 1021 s)) in
    kind-again 1021 1021 (helmert-named r out) s out (helmert_row r) (kept 1021 1021 s (helmert_row r) e b (helmert-row s e))
    (λ n l. named-too r.source r.target 1021 1021 n (helmert_row r) (helmert-good _) (kept-written 1021 1021 s (helmert_row r) n e (helmert-row s e) l)) h

helmert-trips : RoundTrips (λ r. NameBytes r.source × NameBytes r.target) (λ s. (read_helmert s).refusal) (λ s. (read_helmert s).value) write_helmert
helmert-trips =
    record {
      again = helmert-again;
      back =
          λ r out w e.
          let f = helmert-zero r out e in
          let k = helmert-back (length out) r w.0.long w.1.long w.0.bytes w.1.bytes f in
          kind-back (λ s. (read_helmert s).refusal) (λ s. (read_helmert s).value) r 1021 1021 (helmert-named r out) (helmert_row r) out f (λ i. (k i).refusal) (λ i. (k i).value);
      order = λ r. kind-order (values_of (helmert_row r)) (present_of (helmert_row r)) 1021 1021 (good_name r.source && good_name r.target);
    }

module _ (r : MolodenskiBadekas) (out : List ℕ) where
  abbrev molodenski-badekas-named : Bool
  molodenski-badekas-named = good_name r.source && good_name r.target

  molodenski-badekas-zero : (write_molodenski_badekas r out).answer.refusal ≡ 0 → kind_write_refusal 1022 1022 molodenski-badekas-named (values_of (molodenski_badekas_row r)) (present_of (molodenski_badekas_row r)) (length out) ≡ 0
  molodenski-badekas-zero e = zero (kind_write_refusal 1022 1022 molodenski-badekas-named (values_of (molodenski_badekas_row r)) (present_of (molodenski_badekas_row r)) (length out)) _ out e

molodenski-badekas-again : (s out : List ℕ) → Bytes s → (read_molodenski_badekas s).refusal ≡ 0 → length s ≤ length out → write_molodenski_badekas (read_molodenski_badekas s).value out ≡ written s out
unfolding read_molodenski_badekas
molodenski-badekas-again s out b e h =
    let r : MolodenskiBadekas = molodenski_badekas_of (says (kind_row 1022 1022 s)) in
    kind-again 1022 1022 (molodenski-badekas-named r out) s out (molodenski_badekas_row r) (kept 1022 1022 s (molodenski_badekas_row r) e b (molodenski-badekas-row s e))
    (λ n l. named-too r.source r.target 1022 1022 n (molodenski_badekas_row r) (molodenski-badekas-good _) (kept-written 1022 1022 s (molodenski_badekas_row r) n e (molodenski-badekas-row s e) l)) h

molodenski-badekas-trips : RoundTrips (λ r. NameBytes r.source × NameBytes r.target) (λ s. (read_molodenski_badekas s).refusal) (λ s. (read_molodenski_badekas s).value) write_molodenski_badekas
molodenski-badekas-trips =
    record {
      again = molodenski-badekas-again;
      back =
          λ r out w e.
          let f = molodenski-badekas-zero r out e in
          let k = molodenski-badekas-back (length out) r w.0.long w.1.long w.0.bytes w.1.bytes f in
          kind-back (λ s. (read_molodenski_badekas s).refusal) (λ s. (read_molodenski_badekas s).value) r 1022 1022 (molodenski-badekas-named r out) (molodenski_badekas_row r) out f (λ i. (k i).refusal) (λ i. (k i).value);
      order = λ r. kind-order (values_of (molodenski_badekas_row r)) (present_of (molodenski_badekas_row r)) 1022 1022 (good_name r.source && good_name r.target);
    }

grid-again : (s out : List ℕ) → Bytes s → (read_grid s).refusal ≡ 0 → length s ≤ length out → write_grid (read_grid s).value out ≡ written s out
unfolding read_grid
grid-again s out b e h = kind-again 1023 1024 true s out _ (kept 1023 1024 s _ e b (grid-row s e)) (λ n. kept-written 1023 1024 s _ n e (grid-row s e)) h

grid-trips : RoundTrips (λ r. length r.nodes ≡ 16) (λ s. (read_grid s).refusal) (λ s. (read_grid s).value) write_grid
grid-trips =
    record {
      again = grid-again;
      back =
          λ r out w e.
          let f = zero (kind_write_refusal 1023 1024 true (values_of (grid_row r)) (present_of (grid_row r)) (length out)) _ out e in
          let k = grid-back (length out) r w f in
          kind-back (λ s. (read_grid s).refusal) (λ s. (read_grid s).value) r 1023 1024 true (grid_row r) out f (λ i. (k i).refusal) (λ i. (k i).value);
      order = λ r. kind-order (values_of (grid_row r)) (present_of (grid_row r)) 1023 1024 true;
    }

projection-again : (s out : List ℕ) → Bytes s → (read_projection s).refusal ≡ 0 → length s ≤ length out → write_projection (read_projection s).value out ≡ written s out
unfolding read_projection
projection-again s out b e h = kind-again 1025 1025 true s out _ (kept 1025 1025 s _ e b (projection-row s e)) (λ n. kept-written 1025 1025 s _ n e (projection-row s e)) h

projection-trips : RoundTrips (λ r. Unit {0}) (λ s. (read_projection s).refusal) (λ s. (read_projection s).value) write_projection
projection-trips =
    record {
      again = projection-again;
      back =
          λ r out w e.
          let f = zero (kind_write_refusal 1025 1025 true (values_of (projection_row r)) (present_of (projection_row r)) (length out)) _ out e in
          let k = projection-back (length out) r f in
          kind-back (λ s. (read_projection s).refusal) (λ s. (read_projection s).value) r 1025 1025 true (projection_row r) out f (λ i. (k i).refusal) (λ i. (k i).value);
      order = λ r. kind-order (values_of (projection_row r)) (present_of (projection_row r)) 1025 1025 true;
    }

lambert-again : (s out : List ℕ) → Bytes s → (read_lambert s).refusal ≡ 0 → length s ≤ length out → write_lambert (read_lambert s).value out ≡ written s out
unfolding read_lambert
lambert-again s out b e h = kind-again 1026 1026 true s out _ (kept 1026 1026 s _ e b (lambert-row s e)) (λ n. kept-written 1026 1026 s _ n e (lambert-row s e)) h

lambert-trips : RoundTrips (λ r. Unit {0}) (λ s. (read_lambert s).refusal) (λ s. (read_lambert s).value) write_lambert
lambert-trips =
    record {
      again = lambert-again;
      back =
          λ r out w e.
          let f = zero (kind_write_refusal 1026 1026 true (values_of (lambert_row r)) (present_of (lambert_row r)) (length out)) _ out e in
          let k = lambert-back (length out) r f in
          kind-back (λ s. (read_lambert s).refusal) (λ s. (read_lambert s).value) r 1026 1026 true (lambert_row r) out f (λ i. (k i).refusal) (λ i. (k i).value);
      order = λ r. kind-order (values_of (lambert_row r)) (present_of (lambert_row r)) 1026 1026 true;
    }

oblique-mercator-again : (s out : List ℕ) → Bytes s → (read_oblique_mercator s).refusal ≡ 0 → length s ≤ length out → write_oblique_mercator (read_oblique_mercator s).value out ≡ written s out
unfolding read_oblique_mercator
oblique-mercator-again s out b e h = kind-again 1027 1027 true s out _ (kept 1027 1027 s _ e b (oblique-mercator-row s e)) (λ n. kept-written 1027 1027 s _ n e (oblique-mercator-row s e)) h

oblique-mercator-trips : RoundTrips (λ r. Unit {0}) (λ s. (read_oblique_mercator s).refusal) (λ s. (read_oblique_mercator s).value) write_oblique_mercator
oblique-mercator-trips =
    record {
      again = oblique-mercator-again;
      back =
          λ r out w e.
          let f = zero (kind_write_refusal 1027 1027 true (values_of (oblique_mercator_row r)) (present_of (oblique_mercator_row r)) (length out)) _ out e in
          let k = oblique-mercator-back (length out) r f in
          kind-back (λ s. (read_oblique_mercator s).refusal) (λ s. (read_oblique_mercator s).value) r 1027 1027 true (oblique_mercator_row r) out f (λ i. (k i).refusal) (λ i. (k i).value);
      order = λ r. kind-order (values_of (oblique_mercator_row r)) (present_of (oblique_mercator_row r)) 1027 1027 true;
    }

pub both-trips : BothTrips
both-trips =
    record {
      rows = row-trips;
      helmert = helmert-trips;
      molodenski_badekas = molodenski-badekas-trips;
      grid = grid-trips;
      projection = projection-trips;
      lambert = lambert-trips;
      oblique_mercator = oblique-mercator-trips;
    }
