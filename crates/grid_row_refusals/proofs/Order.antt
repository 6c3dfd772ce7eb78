-- The refusal of a row by its parts: the message, the limits, the places, the room.
-- Assumes nothing.
use mathlib.Core.Path.{◌≡◌, refl, sym, ap, ◌∙◌}
use mathlib.Core.Bool.{Bool, true, false, not, cond, ◌&&◌, ◌||◌}
use mathlib.Core.List.{List, [], ◌∷◌, ◌++◌}
use Prim.Native.Nat.{ℕ, zero, suc, ◌+◌, ◌≤◌, ◌<◌}
use native.Mathlib.Omega.{arith}
use borrow.Author.Tests.{ltb-false, lt-ltb, le-ltb, eq-eqb, ne_eqb, eqb-false}
use lib.Dec.{eqb, leb, ltb, eqb-suc-zero}
use lib.IntN.{ℤ, pos, negsuc, nat_abs}
use lib.Signed.{lt_z}
use Rattle.arith.specs.First.{Test, first}
use Rattle.arith.specs.Lists.{up_to, all_below}
use Rattle.arith.proofs.First.{passed, not-false, or-false, stops, goes_on, passes}
use Rattle.arith.proofs.Tests.{all-at, false-ne-true}
use Rattle.record_rows.specs.Numbers.{says}
use Rattle.record_grids.specs.declared.Grid.{Grid}
use Rattle.record_grids.specs.declared.Settings.{Settings}
use Rattle.record_grids.specs.Grids.{grid_of, settings_of}
use Rattle.record_grids.specs.Inner.{settings_at}
use Rattle.message_rows.specs.Message.{tests, number_of, row, kind_refusal}
use Rattle.grid_fields.specs.Inner.{grid_says}
use Rattle.grid_refusals.specs.Refusals.{beyond}
use Rattle.grid_shifts.specs.Shift.{message_shift}
use Rattle.grid_shifts.proofs.Said.{settings-said}
use Rattle.grid_row_refusals.specs.ShiftRow.{east_at, any_beyond, misplaced, refused_test, shift_row_refusal}
use Rattle.grid_row_refusals.specs.Private.{Ready, first_refused}
use Rattle.grid_row_refusals.proofs.Refused.{refused, behind, none_of_lem, refused-same}

-- ---- a row that is not misplaced

pub record Fit (number : ℤ) (n e step : ℤ) (count : ℕ) : Type 0 where
  pub some : 0 < count
  pub most : count ≤ 4096
  pub up : lt_z step (pos 0) ≡ false
  pub near : (k : ℕ) → k < count → beyond number n (east_at e step k) ≡ false

positive : (m : ℕ) → eqb m 0 ≡ false → 0 < m
positive zero h = absurd (false-ne-true (sym h))
positive (suc m) h = omega arith

pub fit : (number n e step : ℤ) (count : ℕ) → misplaced number n e step count ≡ false → Fit number n e step count
unfolding misplaced any_beyond
fit number n e step count m =
    let far = not (all_below (λ k. not (beyond number n (east_at e step k))) count) in
    let p = or-false (eqb count 0 || ltb 4096 count || lt_z step (pos 0)) far m in
    let q = or-false (eqb count 0 || ltb 4096 count) (lt_z step (pos 0)) p.0 in
    let r = or-false (eqb count 0) (ltb 4096 count) q.0 in
    record {
      some = positive count r.0;
      most = ltb-false 4096 count r.1;
      up = q.1;
      near = λ k l. flip _ (all-at (λ k. not (beyond number n (east_at e step k))) count (not-false _ p.1) k l);
    }
  where
    flip : (b : Bool) → not b ≡ true → b ≡ false
    flip true e = sym e
    flip false e = refl

-- a step that is not negative
pub natural-step : (z : ℤ) → lt_z z (pos 0) ≡ false → pos (nat_abs z) ≡ z
natural-step (pos m) h = refl
natural-step (negsuc m) h = absurd (false-ne-true (sym h))

-- the number that the settings says
pub number-said : (s : List ℕ) {f : Settings} → kind_refusal 1023 1024 s ≡ 0 → f ≡ settings_at (grid_says s) → f.number ≡ (grid_of (says (row s))).number
number-said s h k = ap (λ (f : Settings). f.number) (k ∙ settings-said s h)

pub ready : {s : List ℕ} {f : Settings} {n e step : ℤ} {count : ℕ} → kind_refusal 1023 1024 s ≡ 0 → f ≡ settings_at (grid_says s)
    → Fit (grid_of (says (row s))).number n e step count → Ready s f n e (nat_abs step) count
ready {s} {f} {n} {e} {step} {count} h k p =
    record {
      kind = h;
      settings = k;
      most = p.most;
      near = λ j l. (λ i. beyond (number-said s h k i) n (east_at e (natural-step step p.up i) j)) ∙ p.near j l;
    }

-- ---- the order

module _ (s : List ℕ) (c : ℕ) (n e step : ℤ) (count room : ℕ) where
  abbrev number : ℤ
  number = (grid_of (says (row s))).number

  abbrev reading : List Test
  reading = tests s ++ ((7, not (leb 1023 (number_of s) && leb (number_of s) 1024)) ∷ [])

  abbrev limits : List Test
  limits = (8, ltb 2 c) ∷ (9, misplaced number n e step count) ∷ []

  abbrev rest : List Test
  rest = up_to (λ k. refused_test (message_shift s c n (east_at e step k))) count ++ ((6, ltb room count) ∷ [])

  abbrev R : ℕ
  R = shift_row_refusal s c n e step count room

  pub kind-refuses : {r : ℕ} → r ≡ kind_refusal 1023 1024 s → (r ≡ 0 → ⊥) → r ≡ R
  unfolding shift_row_refusal kind_refusal
  kind-refuses f h = stops reading (limits ++ rest) tt f h

  module _ (h : kind_refusal 1023 1024 s ≡ 0) where
    behind-kind : first (limits ++ rest) ≡ R
    unfolding shift_row_refusal kind_refusal
    behind-kind = goes_on reading (limits ++ rest) tt h

    pub limits-refuse : {r : ℕ} → r ≡ first limits → (r ≡ 0 → ⊥) → r ≡ R
    limits-refuse f k = stops limits rest tt f k ∙ behind-kind

    module _ (l : first limits ≡ 0) where
      pub row-fit : Fit number n e step count
      row-fit = fit number n e step count (passed 8 _ 0 (passed 7 (ltb 2 c) _ l).1).0

      behind-limits : {p : ℕ} → p ≡ first_refused s c n e step 0 count → cond (eqb p 0) (cond (ltb room count) 6 0) p ≡ R
      unfolding first_refused
      behind-limits {p} f =
          let refusals : ℕ → ℕ = λ k. (message_shift s c n (east_at e step k)).refusal in
          let q : p ≡ first (up_to (λ k. refused_test (message_shift s c n (east_at e step k))) count) =
          f ∙ refused-same (λ k. refusals (0 + k)) refusals count (λ k b. let z : 0 + k ≡ k = omega arith in ap refusals z) in
          ap (λ (m : ℕ). cond (eqb m 0) (cond (ltb room count) 6 0) m) q ∙ sym (behind refusals count ((6, ltb room count) ∷ [])) ∙ goes_on limits rest tt l ∙ behind-kind

      module _ {p : ℕ} (f : p ≡ first_refused s c n e step 0 count) where
        pub places-refuse : (p ≡ 0 → ⊥) → p ≡ R
        places-refuse k = by ∙ behind-limits f
          where
            by : p ≡ cond (eqb p 0) (cond (ltb room count) 6 0) p
            by = rw (ne_eqb p 0 k)

        pub room-refuses : p ≡ 0 → room < count → 6 ≡ R
        room-refuses k t = by ∙ behind-limits f
          where
            by : 6 ≡ cond (eqb p 0) (cond (ltb room count) 6 0) p
            by = rw (eq-eqb p 0 k, lt-ltb room count t)

        pub none-refuses : p ≡ 0 → count ≤ room → 0 ≡ R
        none-refuses k t = by ∙ behind-limits f
          where
            by : 0 ≡ cond (eqb p 0) (cond (ltb room count) 6 0) p
            by = rw (eq-eqb p 0 k, le-ltb room count t)

  -- no refusal of the row, none of its parts
  pub record Passed : Type 0 where
    pub kind : kind_refusal 1023 1024 s ≡ 0
    pub within : Fit number n e step count
    pub none : (k : ℕ) → k < count → (message_shift s c n (east_at e step k)).refusal ≡ 0
    pub enough : count ≤ room

  pub row-passes : R ≡ 0 → Passed
  unfolding shift_row_refusal kind_refusal
  row-passes h =
      let refusals : ℕ → ℕ = λ k. (message_shift s c n (east_at e step k)).refusal in
      let a = passes reading (limits ++ rest) tt h in
      let b = passes limits rest tt a.1 in
      let p = parts (refused refusals count) (ltb room count) (sym (behind refusals count ((6, ltb room count) ∷ [])) ∙ b.1) in
      record { kind = a.0; within = row-fit a.0 b.0; none = none_of_lem refusals count p.0; enough = ltb-false room count p.1 }
    where
      parts : (m : ℕ) (t : Bool) → cond (eqb m 0) (cond t 6 0) m ≡ 0 → (m ≡ 0) × (t ≡ false)
      parts zero true h = absurd (omega arith)
      parts zero false h = (refl, refl)
      parts (suc m) t h = let z : suc m ≡ 0 = rw (eqb-suc-zero m) at h in absurd (omega arith)
