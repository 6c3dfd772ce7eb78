-- The demands on rows of shifts hold: each statement of specs/ShiftRows.antt, from the laws of grid_row_refusals and grid_shifts.
-- Assumes nothing.
use Prim.Native.Nat.{ℕ, ◌+◌, ◌-◌, ◌≤◌, ◌<◌}
use native.Mathlib.Omega.{arith}
use mathlib.Core.Path.{◌≡◌, refl, sym, ap, ◌∙◌}
use mathlib.Core.Bool.{Bool, true, false, not, ◌||◌}
use mathlib.Core.List.{List, [], ◌∷◌, ◌++◌}
use borrow.Author.Tests.{lt-ltb, le-ltb, eq-eqb, ne_eqb}
use lib.Dec.{ltb}
use lib.IntN.{ℤ, pos, negsuc, neg_ℤ, ◌+ℤ◌, ◌*ℤ◌}
use lib.ListN.{length, drop, length-append, length-drop, get_or-append}
use lib.Seq.{get_or-append-add, get_or-drop}
use lib.Signed.{lt_z, ◌≤ℤ◌}
use Rattle.arith.specs.First.{first}
use Rattle.arith.specs.Lists.{up_to, at}
use Rattle.arith.proofs.Int.{not-less}
use Rattle.arith.proofs.Lists.{length-up_to, get_d-up_to, all_true}
use Rattle.arith.specs.Whole.{same_z}
use Rattle.record_rows.specs.Numbers.{says}
use Rattle.record_grids.specs.declared.Grid.{Grid}
use Rattle.record_grids.specs.Grids.{grid_of, settings_of}
use Rattle.message_rows.specs.Message.{row, kind_refusal}
use Rattle.grid_bilinear.specs.Bilinear.{outside, absent}
use Rattle.grid_refusals.specs.Refusals.{side, origin_available, beyond}
use Rattle.grid_place.specs.Position.{height_of, width_of, north_from, east_from}
use Rattle.grid_shifts.specs.Shift.{surface, north_of, east_of, outcome, shift_with, message_shift}
use Rattle.grid_shifts.specs.declared.Shift.{Shift}
use Rattle.grid_shifts.proofs.Accepted.{message-passed}
use Rattle.grid_shifts.proofs.BothLongitudes.{both-sides}
use Rattle.grid_row_refusals.specs.ShiftRow.{any_beyond, misplaced, shift_row_refusal, shift_row_filled}
use Rattle.grid_row_refusals.specs.Private.{first_refused}
use Rattle.grid_row_refusals.proofs.Refused.{refused, none-refused, first-refused, refused-same}
use Rattle.grid_row_refusals.proofs.Order.{Fit, fit, Passed, row-passes, kind-refuses, limits-refuse, places-refuse, room-refuses, none-refuses}
use Rattle.demands_grids.specs.ShiftRows.{part_at, Equals, RowEqualsCalls, RowRefusedKeeps, Placed, RowNumbers, WholeTurn}

-- ---- the buffer

module _ (s : List ℕ) (c : ℕ) (n e step : ℤ) (count : ℕ) (buffer : List ℤ) where
  abbrev counts : ℕ → ℤ
  counts k = (part_at s c n e step k).count

  abbrev R : ℕ
  R = shift_row_refusal s c n e step count (length buffer)

  module _ (z : R ≡ 0) where
    filled : shift_row_filled s c n e step count buffer ≡ up_to counts count ++ drop count buffer
    unfolding shift_row_filled
    filled = rw (eq-eqb R 0 z)

    passed : Passed s c n e step count (length buffer)
    passed = row-passes s c n e step count (length buffer) z

    equals : Equals s c n e step count buffer (shift_row_filled s c n e step count buffer)
    equals =
        record {
          answered = passed.none;
          counts = λ k l. ap (λ (v : List ℤ). at v k) filled ∙ front k l;
          behind = λ k l. ap (λ (v : List ℤ). at v k) filled ∙ rest k l;
          places =
              ap length filled ∙ length-append (up_to counts count) (drop count buffer)
              ∙ (λ i. length-up_to counts count i + length-drop count buffer i) ∙ whole;
        }
      where
        front : (k : ℕ) → k < count → at (up_to counts count ++ drop count buffer) k ≡ counts k
        front k l =
            let b : k < length (up_to counts count) = omega (arith, length-up_to counts count) in
            get_or-append (up_to counts count) (drop count buffer) (pos 0) k b ∙ get_d-up_to counts count k (pos 0) l

        rest : (k : ℕ) → count ≤ k → at (up_to counts count ++ drop count buffer) k ≡ at buffer k
        rest k l =
            let m : k ≡ length (up_to counts count) + (k - count) = omega (arith, length-up_to counts count) in
            let w : count + (k - count) ≡ k = omega arith in
            ap (at (up_to counts count ++ drop count buffer)) m ∙ get_or-append-add (up_to counts count) (drop count buffer) (k - count) (pos 0)
            ∙ get_or-drop count buffer (k - count) (pos 0) ∙ ap (at buffer) w

        whole : count + (length buffer - count) ≡ length buffer
        whole = omega (arith, passed.enough)

pub row-equals : RowEqualsCalls
row-equals s c n e step count buffer z = equals s c n e step count buffer z

pub refused-keeps : RowRefusedKeeps
unfolding shift_row_filled
refused-keeps s c n e step count buffer h = rw (ne_eqb (R s c n e step count buffer) 0 h)

-- ---- the number

not-below : (z : ℤ) → pos 0 ≤ℤ z → lt_z z (pos 0) ≡ false
not-below (pos m) h = le-ltb m 0 (omega arith)
not-below (negsuc m) h = absurd h.le

not-misplaced : {s : List ℕ} {n e step : ℤ} {count : ℕ} → Placed s n e step count → misplaced (grid_of (says (row s))).number n e step count ≡ false
unfolding misplaced any_beyond
not-misplaced {s} {n} {e} {step} {count} p =
    rw (
      ne_eqb count 0 (λ z. absurd (omega (arith, z, p.some))),
      le-ltb 4096 count p.most,
      not-below step p.up,
      all_true (λ k. not (beyond (grid_of (says (row s))).number n (e +ℤ pos k *ℤ step))) count (λ k l. ap not (p.near k l)),
    )

placed_of : {s : List ℕ} {n e step : ℤ} {count : ℕ} → Fit (grid_of (says (row s))).number n e step count → Placed s n e step count
placed_of f = record { some = f.some; most = f.most; up = not-less f.up; near = f.near }

-- the tests behind POSITION have the numbers 10 to 15
late-numbers : (a b c d f g : Bool) {r : ℕ} → r ≡ first ((10, a) ∷ (11, b) ∷ (12, c) ∷ (13, d) ∷ (14, f) ∷ (15, g) ∷ []) → (r ≡ 0 → ⊥) → (10 ≤ r) × (r ≤ 15)
late-numbers true b c d f g e h = (omega arith, omega arith)
late-numbers false true c d f g e h = (omega arith, omega arith)
late-numbers false false true d f g e h = (omega arith, omega arith)
late-numbers false false false true f g e h = (omega arith, omega arith)
late-numbers false false false false true g e h = (omega arith, omega arith)
late-numbers false false false false false true e h = (omega arith, omega arith)
late-numbers false false false false false false e h = absurd (h e)

module _ (s : List ℕ) (c : ℕ) (n e step : ℤ) (count room : ℕ) where
  abbrev g : Grid
  g = grid_of (says (row s))

  abbrev Q : ℕ
  Q = shift_row_refusal s c n e step count room

  abbrev refusals : ℕ → ℕ
  refusals k = (part_at s c n e step k).refusal

  module _ (h : kind_refusal 1023 1024 s ≡ 0) where
    no-component : 2 < c → Q ≡ 8
    no-component l =
        let is : 8 ≡ first ((8, ltb 2 c) ∷ (9, misplaced g.number n e step count) ∷ []) = rw (lt-ltb 2 c l) in
        sym (limits-refuse s c n e step count room h is (λ z. absurd (omega arith)))

    no-position : c ≤ 2 → (Placed s n e step count → ⊥) → Q ≡ 9
    no-position l o = by (misplaced g.number n e step count) refl
      where
        by : (b : Bool) → misplaced g.number n e step count ≡ b → Q ≡ 9
        by true q =
            let is : 9 ≡ first ((8, ltb 2 c) ∷ (9, misplaced g.number n e step count) ∷ []) = rw (le-ltb 2 c l, q) in
            sym (limits-refuse s c n e step count room h is (λ z. absurd (omega arith)))
        by false q = absurd (o (placed_of (fit g.number n e step count q)))

    module _ (l : c ≤ 2) (p : Placed s n e step count) where
      within : first ((8, ltb 2 c) ∷ (9, misplaced g.number n e step count) ∷ []) ≡ 0
      within = rw (le-ltb 2 c l, not-misplaced p)

      from_zero : first_refused s c n e step 0 count ≡ refused refusals count
      unfolding first_refused
      from_zero = refused-same (λ k. refusals (0 + k)) refusals count (λ k b. let z : 0 + k ≡ k = omega arith in ap refusals z)

      late : (k : ℕ) → k < count → (refusals k ≡ 0 → ⊥) → (10 ≤ refusals k) × (refusals k ≤ 15)
      unfolding message_shift shift_with outcome
      late k b o =
          let x : ℤ = e +ℤ pos k *ℤ step in
          late-numbers (same_z (side c g.indicators) (pos 0)) (not (same_z (side c g.methods) (pos 0))) (not (origin_available g.origin))
          (same_z g.spacing.north (pos 0) || same_z g.spacing.east (pos 0)) (outside (height_of (settings_of g)) (north_from (settings_of g) n) || outside (width_of (settings_of g)) (east_from (settings_of g) x))
          (absent (surface g c) (north_of g n) (east_of g x)) (sym (message-passed s c n x h) ∙ rw (le-ltb 2 c l, p.near k b)) o

      at_place : (k : ℕ) → k < count → ((j : ℕ) → j < k → refusals j ≡ 0) → (refusals k ≡ 0 → ⊥) → (Q ≡ refusals k) × (10 ≤ Q) × (Q ≤ 15)
      at_place k b before o =
          let is : refusals k ≡ Q = places-refuse s c n e step count room h within (first-refused refusals count k b before o ∙ sym from_zero) o in
          let w = late k b o in
          (sym is, rw (← is) w.0, rw (← is) w.1)

      module _ (all : (k : ℕ) → k < count → refusals k ≡ 0) where
        none-there : 0 ≡ first_refused s c n e step 0 count
        none-there = sym (from_zero ∙ none-refused refusals count all)

        no_room : room < count → Q ≡ 6
        no_room b = sym (room-refuses s c n e step count room h within none-there refl b)

        is-done : count ≤ room → Q ≡ 0
        is-done b = sym (none-refuses s c n e step count room h within none-there refl b)

pub row-numbers : RowNumbers
row-numbers s c n e step count room =
    record {
      kind = λ h. sym (kind-refuses s c n e step count room refl h);
      component = no-component s c n e step count room;
      position = no-position s c n e step count room;
      place = at_place s c n e step count room;
      short = no_room s c n e step count room;
      done = is-done s c n e step count room;
    }

-- ---- a whole turn

pub whole-turn : WholeTurn
whole-turn s c n buffer m z =
    let q = row-equals s c n (neg_ℤ (pos 6480000000)) (pos 12960000000) 2 buffer z in
    q.counts 0 (omega arith) ∙ sym (ap (λ (p : Shift). p.count) (both-sides s c n m)) ∙ sym (q.counts 1 (omega arith))
