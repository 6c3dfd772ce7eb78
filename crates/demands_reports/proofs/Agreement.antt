-- The running tally is the report of the points so far, and a refused update changes nothing.
-- Assumes nothing.
use mathlib.Core.Path.{◌≡◌, refl, sym, ap, ◌∙◌}
use mathlib.Core.Bool.{cond}
use mathlib.Core.List.{List, [], ◌∷◌, ◌++◌, append_assoc}
use Prim.Native.Nat.{ℕ, ◌+◌, ◌≤◌, ◌<◌}
use native.Mathlib.Omega.{arith}
use borrow.Author.Tests.{ne_eqb, le-ltb, lt-leb, lt-ltb}
use lib.Dec.{eqb}
use lib.IntN.{nat_abs}
use lib.ListN.{length, length-append}
use Rattle.grid_counts.specs.declared.Counted.{Counted}
use Rattle.report_update.specs.declared.Tally.{Tally}
use Rattle.report_update.specs.declared.Report.{Report}
use Rattle.report_update.specs.Numbers.{tally_of, report_with, points_in}
use Rattle.report_update.specs.Update.{with_outcome}
use Rattle.report_update.proofs.Agree.{points-are, sum-small, with-one}
use Rattle.report_tally.specs.Next.{outcome_at, next_refusal, next_of}
use Rattle.report_points.specs.declared.Point.{Point}
use Rattle.report_points.specs.Reports.{outcomes, report_refusal, report_of}
use Rattle.report_points.proofs.Walk.{sounds, outcomes-more, outcomes-length, report_so_far, nil-right}
use Rattle.demands_reports.specs.Points.{zeros, running_from, running, RunningIsReport, AfterEveryPoint, RefusedComponent, RefusedKeeps, GivenIsAll}

module _ (s : List ℕ) (c : ℕ) where
  -- the tally of the points so far takes one more, and is then that of one more
  module _ (ps : List Point) (p : Point) (known : c ≤ 2) (few : length ps < 10000) where
    abbrev os : List Counted
    os = outcomes s c ps

    abbrev o : Counted
    o = outcome_at s c p.north p.east

    points : points_in (tally_of os) ≡ length os
    points = points-are os (sounds s c ps)

    near : nat_abs (tally_of os).sum ≤ 100000000000
    unfolding tally_of
    near = omega (arith, sum-small os (sounds s c ps), outcomes-length s c ps)

    none-refused : next_refusal (tally_of os) c ≡ 0
    unfolding next_refusal
    none-refused =
        simp (
          le-ltb 2 c known,
          lt-leb 10000 (points_in (tally_of os)) (omega (arith, points, outcomes-length s c ps)),
          le-ltb 100000000000 (nat_abs (tally_of os).sum) near,
        )

    next-is : next_of (tally_of os) s c p.north p.east ≡ report_so_far s c (ps ++ (p ∷ []))
    unfolding next_of
    next-is =
        (λ i. record { refusal = none-refused i; tally = cond (eqb (none-refused i) 0) (with_outcome (tally_of os) o.refusal o.count (points i + 1)) (tally_of os) })
        ∙ ap (λ (t : Tally). record { refusal = 0; tally = t }) (with-one os o ∙ ap tally_of (sym (outcomes-more s c ps p)))

  running-from : (qs ps : List Point) → c ≤ 2 → length qs + length ps ≤ 10000 → running_from s c ps (tally_of (outcomes s c qs)) ≡ tally_of (outcomes s c (qs ++ ps))
  running-from qs [] known h = ap (λ (l : List Point). tally_of (outcomes s c l)) (nil-right s c qs)
  running-from qs (p ∷ ps) known h =
      ap (λ (r : Report). running_from s c ps r.tally) (next-is qs p known (omega arith))
      ∙ running-from (qs ++ (p ∷ [])) ps known (omega (arith, length-append qs (p ∷ [])))
      ∙ ap (λ (l : List Point). tally_of (outcomes s c l)) (append_assoc qs (p ∷ []) ps)

  known_is : (ps : List Point) → c ≤ 2 → length ps ≤ 10000 → report_so_far s c ps ≡ report_of s c ps
  unfolding report_of
  known_is ps known few = sym (ap (λ (r : ℕ). report_with r (outcomes s c ps)) passes)
    where
      passes : report_refusal c (length ps) ≡ 0
      passes = simp (le-ltb 2 c known, le-ltb 10000 (length ps) few)

  -- a component that is none
  module _ (over : 2 < c) where
    refused : (t : Tally) → next_refusal t c ≡ 8
    unfolding next_refusal
    refused t = simp (lt-ltb 2 c over)

    next-refused : (t : Tally) (p : Point) → next_of t s c p.north p.east ≡ record { refusal = 8; tally = t }
    unfolding next_of
    next-refused t p = rw (refused t)

    stopped : (ps : List Point) → running s c ps ≡ zeros
    stopped [] = refl
    stopped (p ∷ ps) = ap (λ (r : Report). running_from s c ps r.tally) (next-refused zeros p) ∙ stopped ps

    report-refused : (ps : List Point) → report_of s c ps ≡ report_with 8 []
    unfolding report_of
    report-refused ps = simp (lt-ltb 2 c over)

pub running-is-report : RunningIsReport
running-is-report s c ps known few = ap (λ (t : Tally). record { refusal = 0; tally = t }) (running-from s c [] ps known (omega arith)) ∙ known_is s c ps known few

pub after-every-point : AfterEveryPoint
after-every-point s c ps p known few =
    ap (λ (t : Tally). next_of t s c p.north p.east) (running-from s c [] ps known (omega arith))
    ∙ next-is s c ps p known few
    ∙ known_is s c (ps ++ (p ∷ [])) known (omega (arith, length-append ps (p ∷ [])))

pub refused-component : RefusedComponent
refused-component s c ps p over =
    let r = report-refused s c over ps in (
      stopped s c over ps ∙ sym (ap (λ (x : Report). x.tally) r),
      ap (λ (x : Report). x.refusal) r,
      ap (λ (x : Report). x.refusal) (next-refused s c over (running s c ps) p),
    )

pub refused-keeps : RefusedKeeps
unfolding next_of
refused-keeps t s c n e h = rw (ne_eqb (next_refusal t c) 0 h)

pub given-is-all : GivenIsAll
given-is-all s c ps known few =
    ap (λ (r : Report). points_in r.tally) (sym (known_is s c ps known few)) ∙ points-are (outcomes s c ps) (sounds s c ps) ∙ outcomes-length s c ps
