-- What a point is answered: a refusal number of at most 15, and a count of at most 10^7.
-- Assumes nothing.
use mathlib.Core.Path.{subst}
use mathlib.Core.Bool.{Bool, true, false, not, cond, ◌&&◌}
use mathlib.Core.List.{List, [], ◌∷◌, ◌++◌}
use Prim.Native.Nat.{ℕ, ◌≤◌, zero-le}
use lib.Dec.{T, eqb, leb, leb→le}
use lib.IntN.{ℤ, nat_abs}
use Rattle.arith.specs.First.{Test, first}
use Rattle.record_rows.specs.Numbers.{says}
use Rattle.record_grids.specs.Grids.{grid_of}
use Rattle.message_rows.specs.Message.{tests, number_of, row}
use Rattle.grid_cell.specs.Inner.{weights_in}
use Rattle.grid_fields.specs.Inner.{mean_says, cell_says}
use Rattle.grid_place.specs.Inner.{held_place}
use Rattle.grid_counts.specs.Counts.{refused_with}
use Rattle.grid_counts.specs.Inner.{cell_count}
use Rattle.grid_shifts.specs.Shift.{grid_tests, shift_refusal, outcome, shift_with, message_shift}
use Rattle.grid_component.specs.Inner.{kept_of, counted_by}
use Rattle.grid_counts.specs.declared.Counted.{Counted}
use Rattle.grid_counts.proofs.Bounds.{cell-most}
use Rattle.grid_component.specs.declared.Kept.{Kept}
use Rattle.grid_component.proofs.Counts.{counted_is}
use Rattle.report_update.proofs.Agree.{Sound}
use Rattle.report_tally.specs.Next.{outcome_at}

-- ---- the number: no test has one above n

abbrev upto : ℕ → List Test → Bool
upto n [] = true
upto n (t ∷ ts) = leb t.0 n && upto n ts

one-most : (n k m : ℕ) (b x rest : Bool) → T (b && rest) → (T b → k ≤ n) → (T rest → m ≤ n) → cond x k m ≤ n
one-most n k m true true rest p f g = f tt
one-most n k m true false rest p f g = g p
one-most n k m false x rest p f g = absurd p

first-most : (n : ℕ) (ts : List Test) → T (upto n ts) → first ts ≤ n
first-most n [] p = zero-le
first-most n (t ∷ ts) p = one-most n t.0 (first ts) (leb t.0 n) t.1 (upto n ts) p (leb→le t.0 n) (first-most n ts)

number-most : (s : List ℕ) (c : ℕ) (n e : ℤ) → (message_shift s c n e).refusal ≤ 15
unfolding message_shift shift_with outcome shift_refusal
number-most s c n e = first-most 15 (tests s ++ (7, not (leb 1023 (number_of s) && leb (number_of s) 1024)) ∷ grid_tests (grid_of (says (row s))) c n e) tt

-- ---- the count: that in a cell, or 0

refused-or : (b : Bool) (o : Counted) (r : ℕ) → nat_abs o.count ≤ 10000000 → nat_abs (cond b o (refused_with r)).count ≤ 10000000
refused-or true o r h = h
refused-or false o r h = zero-le

kept-most : (s : List ℕ) (kept : Kept) (c : ℕ) (n e : ℤ) → nat_abs (counted_by s kept c n e).count ≤ 10000000
unfolding counted_by
kept-most s kept c n e =
    let p = held_place kept.settings c n e in
    let o : Counted = cell_count kept.settings.number c (mean_says s c) (cell_says s c p.row p.column) (weights_in p.height p.width p.north p.east) in
    refused-or (eqb kept.refusal 0) (cond (eqb p.refusal 0) o (refused_with p.refusal)) kept.refusal
    (refused-or (eqb p.refusal 0) o p.refusal
    (cell-most kept.settings.number c (mean_says s c) (cell_says s c p.row p.column) (weights_in p.height p.width p.north p.east)))

pub outcome-sound : (s : List ℕ) (c : ℕ) (n e : ℤ) → Sound (outcome_at s c n e)
outcome-sound s c n e =
    record {
      number = number-most s c n e;
      size = subst (λ (o : Counted). nat_abs o.count ≤ 10000000) (counted_is s c n e) (kept-most s (kept_of s) c n e);
    }
