-- The demands on the shift hold: each statement of specs/Grids.antt, from the laws of grid_bilinear and grid_shifts.
-- Assumes nothing.
use Rattle.std.proofs.Common.{Option}
use Prim.Native.Nat.{ℕ, ◌-◌, ◌*◌}
use native.Mathlib.Nat.{mul-pos}
use native.Mathlib.Omega.{arith}
use mathlib.Core.Path.{◌≡◌, refl, sym, ap, subst, ◌∙◌}
use mathlib.Core.Bool.{Bool, true, false, true≢false, not, cond, ◌&&◌, ◌||◌}
use mathlib.Core.List.{List, [], ◌∷◌, ◌++◌}
use mathlib.Core.Logic.{◌⊎◌, inl, inr}
use lib.IntN.{ℤ, pos, neg_ℤ, ◌+ℤ◌, ◌*ℤ◌}
use lib.Signed.{◌≤ℤ◌, ◌<ℤ◌}
use lib.Ieee.{binary64, of_int}
use borrow.Author.Tests.{eq-eqb, ne_eqb}
use lib.Dec.{T, eqb}
use Rattle.arith.specs.Whole.{same_z}
use Rattle.arith.specs.First.{Test, first}
use Rattle.record_grids.specs.declared.Grid.{Grid}
use Rattle.record_grids.specs.declared.Shifts.{Shifts}
use Rattle.record_grids.specs.Grids.{grid_of, grid_row, settings_of}
use Rattle.layout.specs.Layout.{value_in, available}
use Rattle.record_rows.specs.Numbers.{values_of, present_of}
use Rattle.message_rows.specs.Message.{kind_tests, kind_refusal}
use Rattle.message_records.specs.Kinds.{read_grid}
use Rattle.grid_bilinear.specs.Bilinear.{outside, cell, in_cell, exact, absent_in, absent, interpolated, nearest_whole, LipschitzBound}
use Rattle.grid_bilinear.proofs.Nearest.{nearest-close, nearest-half, nearest-only}
use Rattle.grid_bilinear.proofs.Unweighted.{absent-same, sum_same}
use Rattle.grid_shifts.specs.declared.Answer.TheVariants.{Refused}
use Rattle.grid_shifts.specs.declared.Shift.{Shift}
use Rattle.grid_shifts.specs.declared.ThreeShifts.{ThreeShifts}
use Rattle.grid_refusals.specs.Refusals.{ellipsoidal, field_tests}
use Rattle.grid_counts.specs.Counts.{node_factor}
use Rattle.grid_shifts.specs.Shift.{surface, north_of, east_of, grid_tests, outcome, shift_with, record_shift_refusal, shift_refusal, record_shift, message_shift, answer_of, float_of, three_of, message_shifts}
use Rattle.grid_place.specs.Position.{by_turns, east_by}
use Rattle.grid_shifts.proofs.Accepted.{message-grid, held-is-written}
use Rattle.grid_shifts.proofs.Lipschitz.{lipschitz-message, spaced, counted, east-steps}
use Rattle.message_rows.proofs.Trips.{row_number}
use Rattle.grid_place.proofs.Antimeridian.{turns_of, turned_same, turned-low, turned-high, turned-only}
use Rattle.grid_shifts.proofs.BothLongitudes.{plane, both-sides}
use Rattle.grid_shifts.proofs.Calls.{shared-answer, calls-agree, count-lossless, sum-below-limit}
use Rattle.demands_grids.specs.Grids.{grid_at, surface_at, north_steps, east_steps, with_nodes, AnsweredAt, exact_at, GridAnswer, SharedEdges, BothCalls, HeldIsWritten, SameWeighted, OnlyWeighted, Lossless, SumBound, steps_north, steps_east, Lipschitz, BoundBetween, ReadsAs, ThreeParts, ComponentNeverGiven, PlainSteps, plain_east, EastTurned, BothLongitudes}

-- the refusal answered is the one defined
refusal_is : (s : List ℕ) (c : ℕ) (n e : ℤ) → AnsweredAt s c n e → shift_refusal s c n e ≡ 0
unfolding message_shift shift_with outcome
refusal_is s c n e h = h

pub grid-answer : GridAnswer
grid-answer s c n e h =
    let r = refusal_is s c n e h in
    let d : ℕ = (surface_at s c).H * (surface_at s c).W in
    let p = spaced s c n e r in
    let a = mul-pos p.0 p.1 in
    record {
      area = a;
      rounded = nearest_whole (exact_at s c n e) d;
      count = counted s c n e r ∙ unfold interpolated in refl;
      nearest = record { close = nearest-close (exact_at s c n e) d a; half = nearest-half (exact_at s c n e) d a };
      only = λ x i. nearest-only (exact_at s c n e) d a x i.close i.half;
    }

-- what the reader of grids answers
kind-is : (s : List ℕ) → (read_grid s).refusal ≡ 0 → kind_refusal 1023 1024 s ≡ 0
unfolding read_grid
kind-is s h = h

pub shared-edges : SharedEdges
shared-edges s c n e r f k l h =
    shared-answer s c n e (kind-is s r) f h.inside.0 h.inside.1 k l h.row h.column h.north.0 h.north.1 h.east.0 h.east.1

pub both-calls : BothCalls
unfolding read_grid
both-calls s c n e h = ap (λ (g : Grid). record_shift g c n e) (message-grid s c n e h) ∙ calls-agree s c n e h

pub held-written : HeldIsWritten
held-written g m h = held-is-written (values_of (grid_row g)) (present_of (grid_row g)) m h

-- nodes that say the same agree in counts and in being present
says_same : (f : ℕ) {w : ℕ} {a b : Option ℤ} → (w ≡ 0) ⊎ (a ≡ b) → (w ≡ 0) ⊎ ((pos f *ℤ value_in a ≡ pos f *ℤ value_in b) × (available a ≡ available b))
says_same f (inl e) = inl e
says_same f (inr e) = inr (ap (λ (r : Option ℤ). pos f *ℤ value_in r) e, ap available e)

module _ (g : Grid) (ns : List Shifts) (c : ℕ) (n e : ℤ) where
  abbrev y : ℕ
  y = north_steps g c n

  abbrev x : ℕ
  x = east_steps g c e

  abbrev k : ℕ
  k = cell (surface g c).H y

  abbrev l : ℕ
  l = cell (surface g c).W x

  abbrev f : ℕ
  f = node_factor g.number c

  module _ (w : SameWeighted g ns c k l (y - k * (surface g c).H) (x - l * (surface g c).W)) where
    same-absent : absent_in (surface g c) k l y x ≡ absent_in (surface (with_nodes g ns) c) k l y x
    unfolding surface
    same-absent =
        absent-same (surface g c).H (surface g c).W (surface g c).mean (surface g c).mean_present (surface g c).node (surface (with_nodes g ns) c).node
        (surface g c).present (surface (with_nodes g ns) c).present k l y x (says_same f w.sw) (says_same f w.se) (says_same f w.nw) (says_same f w.ne)

    same_sum : in_cell (surface g c) k l y x ≡ in_cell (surface (with_nodes g ns) c) k l y x
    unfolding surface
    same_sum =
        sum_same (surface g c).H (surface g c).W (surface g c).mean (surface g c).mean_present (surface g c).node (surface (with_nodes g ns) c).node
        (surface g c).present (surface (with_nodes g ns) c).present k l y x (says_same f w.sw) (says_same f w.se) (says_same f w.nw) (says_same f w.ne)

pub only-weighted : OnlyWeighted
unfolding surface north_of east_of record_shift shift_with record_shift_refusal interpolated exact absent
only-weighted g ns c n e h w =
    λ i. outcome g.number c
    (first
    ((5, not (h i))
    ∷ field_tests (settings_of g) c n e
    ++ ((14, outside (surface g c).H (north_of g n) || outside (surface g c).W (east_of g e)) ∷ (15, same-absent g ns c n e w i) ∷ [])))
    ((surface g c).mean +ℤ nearest_whole (same_sum g ns c n e w i) ((surface g c).H * (surface g c).W))

pub lossless : Lossless
lossless s c n e h = let b = count-lossless s c n e (refusal_is s c n e h) in record { whole = b.0; same = b.1 }

pub sum_bound : SumBound
sum_bound s c n e h = sum-below-limit s c n e (refusal_is s c n e h)

pub lipschitz : Lipschitz
lipschitz s c _ n₁ e₁ n₂ e₂ p q = lipschitz-message s c n₁ e₁ n₂ e₂ (refusal_is s c n₁ e₁ p) (refusal_is s c n₂ e₂ q)

-- the same of two answers that are the call's
pub lipschitz-answers : (s : List ℕ) (c : ℕ) (n₁ e₁ n₂ e₂ : ℤ) (a b : Shift) → a ≡ message_shift s c n₁ e₁ → b ≡ message_shift s c n₂ e₂
    → BoundBetween s c a b n₁ e₁ n₂ e₂
lipschitz-answers s c n₁ e₁ n₂ e₂ a b p q t u v =
    let r : LipschitzBound (surface_at s c) (message_shift s c n₁ e₁).count (message_shift s c n₂ e₂).count (steps_north n₁ n₂) (steps_east s e₁ e₂) =
    lipschitz s c t n₁ e₁ n₂ e₂ (sym (ap (λ (r : Shift). r.refusal) p) ∙ u) (sym (ap (λ (r : Shift). r.refusal) q) ∙ v) in
    rw (p, q) r

-- ---- one call for the three shifts

answer-refused : (s : List ℕ) (c : ℕ) (n e : ℤ) → ((message_shift s c n e).refusal ≡ 0 → ⊥) → (message_shift s c n e).answer ≡ Refused (message_shift s c n e).refusal
unfolding message_shift shift_with outcome answer_of
answer-refused s c n e h = rw (ne_eqb (shift_refusal s c n e) 0 h)

-- the float of one part
reads_as : (s : List ℕ) (c : ℕ) (n e : ℤ) → ReadsAs (float_of (message_shift s c n e).answer) (message_shift s c n e)
unfolding float_of
reads_as s c n e =
    record {
      refused = refused s c n e;
      seconds = λ y h. ap float_of h;
      metres = λ y h. ap float_of h;
    }
  where
    refused : (s : List ℕ) (c : ℕ) (n e : ℤ) → ((message_shift s c n e).refusal ≡ 0 → ⊥) → float_of (message_shift s c n e).answer ≡ of_int binary64 (pos 0)
    refused s c n e h = ap float_of (answer-refused s c n e h)

pub three-parts : ThreeParts
unfolding message_shifts three_of
three-parts s n e =
    record { parts = (refl, refl, refl); north = reads_as s 0 n e; east = reads_as s 1 n e; height = reads_as s 2 n e }

-- what is the merged call's answer has its parts
pub parts_are : (s : List ℕ) (n e : ℤ) {r : ThreeShifts} → r ≡ message_shifts s n e
    → (r.parts.north ≡ message_shift s 0 n e) × (r.parts.east ≡ message_shift s 1 n e) × (r.parts.height ≡ message_shift s 2 n e)
unfolding message_shifts three_of
parts_are s n e h = (ap (λ (r : ThreeShifts). r.parts.north) h, ap (λ (r : ThreeShifts). r.parts.east) h, ap (λ (r : ThreeShifts). r.parts.height) h)

-- no test of the list has the number k and holds
abbrev clear : ℕ → List Test → Bool
clear k [] = true
clear k (t ∷ ts) = cond (eqb t.0 k) (not t.1) true && clear k ts

never : (k : ℕ) (ts : List Test) → T (clear k ts) → (k ≡ 0 → ⊥) → first ts ≡ k → ⊥
never k [] p z e = z (sym e)
never k (t ∷ ts) p z e = by t.0 (eqb t.0 k) t.1 refl p (λ q. never k ts q z) e
  where
    by : (n : ℕ) (q x : Bool) → eqb n k ≡ q → T (cond q (not x) true && clear k ts) → (T (clear k ts) → first ts ≡ k → ⊥) → cond x n (first ts) ≡ k → ⊥
    by n true true f p h e = p
    by n true false f p h e = h p e
    by n false true f p h e = true≢false (sym (eq-eqb n k e) ∙ f)
    by n false false f p h e = h p e

part-not-8 : (s : List ℕ) (c : ℕ) (n e : ℤ) → T (clear 8 (kind_tests 1023 1024 s ++ grid_tests (grid_at s) c n e)) → (message_shift s c n e).refusal ≡ 8 → ⊥
unfolding message_shift shift_with outcome shift_refusal
part-not-8 s c n e t h = never 8 (kind_tests 1023 1024 s ++ grid_tests (grid_at s) c n e) t (λ z. absurd (omega arith)) h

pub component-never-given : ComponentNeverGiven
unfolding message_shifts three_of
component-never-given s n e =
    record { north = part-not-8 s 0 n e tt; east = part-not-8 s 1 n e tt; height = part-not-8 s 2 n e tt }

pub plain-steps : PlainSteps
unfolding grid_of
plain-steps s a b e k = east-steps (grid_at s) a b (plane (grid_at s).number (row_number s e ∙ k))

-- ---- across the antimeridian

one-turn : (g : Grid) (e : ℤ) (b : Bool) → b ≡ true → (x : ℤ) → by_turns x ≡ cond b (by_turns x) x
one-turn g e b t x = rw t

pub east-turned : EastTurned
unfolding east_of same_z
east-turned g e q =
    let z = plain_east g e in
    let is : by_turns z ≡ east_by g.number z = one-turn g e (ellipsoidal g.number) (rw q) z in
    record {
      turned =
          record {
            turns = turns_of z;
            same = sym is ∙ turned_same z;
            low = subst (λ (r : ℤ). neg_ℤ (pos 6480000000) ≤ℤ r) is (turned-low z);
            high = subst (λ (r : ℤ). r <ℤ pos 6480000000) is (turned-high z);
          };
      only = λ r t. turned-only z t.turns r t.same t.low t.high ∙ is;
    }

pub both-answers : BothLongitudes
both-answers s c n m = both-sides s c n m
