-- A walk over the points, one after the other, gives the report of the list.
-- Assumes nothing.
use mathlib.Core.Path.{◌≡◌, refl, sym, ap, ◌∙◌, subst}
use mathlib.Core.Bool.{Bool, true, false, cond}
use mathlib.Core.List.{List, [], ◌∷◌, ◌++◌, append_assoc}
use Prim.Native.Nat.{ℕ, suc, ◌+◌, ◌≤◌, ◌<◌}
use native.Mathlib.Numerals.{add-one}
use native.Mathlib.Omega.{arith}
use borrow.Author.Tests.{ltb-false, eq-eqb}
use lib.Dec.{eqb, ltb}
use lib.IntN.{pos}
use lib.ListN.{length, get_or, drop, drop_of_length-le, length-append}
use lib.Seq.{drop-cons}
use Rattle.grid_component.specs.Inner.{kept_of, counted_by}
use Rattle.grid_counts.specs.declared.Counted.{Counted}
use Rattle.grid_component.specs.declared.Kept.{Kept}
use Rattle.grid_component.proofs.Counts.{counted_is}
use Rattle.report_update.specs.declared.Report.{Report}
use Rattle.report_update.specs.Numbers.{tally_of, report_with}
use Rattle.report_update.specs.Inner.{grown_by}
use Rattle.report_update.proofs.Laws.{no}
use Rattle.report_update.proofs.Behind.{one}
use Rattle.report_update.proofs.Agree.{Sounds, grown-one}
use Rattle.report_tally.specs.Next.{outcome_at}
use Rattle.report_tally.proofs.Sound.{outcome-sound}
use Rattle.report_points.specs.declared.Point.{Point}
use Rattle.report_points.specs.Reports.{outcomes, report_of}
use Rattle.report_points.specs.Private.{start_of, step_of, report_from}

-- ---- one point

-- by what is counted at it
pub stepped : (r : Report) (s : List ℕ) (kept : Kept) (c : ℕ) (p : Point) (before : ℕ) {o : Counted} → o ≡ counted_by s kept c p.north p.east → r.refusal ≡ 0
    → record { refusal = 0; tally = grown_by r.tally o.refusal o.count before } ≡ step_of r s kept c p before
unfolding step_of
stepped r s kept c p before e z =
    (λ i. record { refusal = 0; tally = grown_by r.tally (e i).refusal (e i).count before }) ∙ rw (eq-eqb r.refusal 0 z)

-- ---- a report, and the points that are left

abbrev pub no-point : Point
no-point = record { north = pos 0; east = pos 0 }

module _ (s : List ℕ) (kept : Kept) (c : ℕ) (ps : List Point) (i : ℕ) where
  -- no point is left
  pub all_done : (r : Report) → length ps ≤ i → report_from s kept c i (drop i ps) r ≡ r
  all_done r over = ap (λ (l : List Point). report_from s kept c i l r) (drop_of_length-le ps over)

  -- one point more
  pub one_more : (r r' : Report) → i < length ps → r' ≡ step_of r s kept c (get_or ps i no-point) i
      → report_from s kept c (i + 1) (drop (i + 1) ps) r' ≡ report_from s kept c i (drop i ps) r
  one_more r r' less e =
      ap (λ (k : ℕ). report_from s kept c (i + 1) (drop k ps) r') (add-one i) ∙ ap (report_from s kept c (i + 1) (drop (suc i) ps)) e
      ∙ sym (ap (λ (l : List Point). report_from s kept c i l r) (drop-cons ps i no-point less))

-- ---- the report of the points so far

module _ (s : List ℕ) (c : ℕ) where
  pub sounds : (ps : List Point) → Sounds (outcomes s c ps)
  sounds [] = tt
  sounds (p ∷ ps) = (outcome-sound s c p.north p.east, sounds ps)

  pub outcomes-more : (ps : List Point) (p : Point) → outcomes s c (ps ++ (p ∷ [])) ≡ outcomes s c ps ++ one (outcome_at s c p.north p.east)
  outcomes-more [] p = refl
  outcomes-more (q ∷ ps) p = ap (λ (l : List Counted). outcome_at s c q.north q.east ∷ l) (outcomes-more ps p)

  pub outcomes-length : (ps : List Point) → length (outcomes s c ps) ≡ length ps
  outcomes-length [] = refl
  outcomes-length (p ∷ ps) = ap suc (outcomes-length ps)

  -- with refusal 0
  abbrev pub report_so_far : List Point → Report
  report_so_far ps = record { refusal = 0; tally = tally_of (outcomes s c ps) }

  step_is : (ps : List Point) (p : Point) → length ps < 10000 → step_of (report_so_far ps) s (kept_of s) c p (length ps) ≡ report_so_far (ps ++ (p ∷ []))
  unfolding step_of
  step_is ps p few =
      let os = outcomes s c ps in
      let o = outcome_at s c p.north p.east in
      let e = counted_is s c p.north p.east in
      let l = outcomes-length ps in
      ap (λ t. record { refusal = 0; tally = t })
      ((λ i. grown_by (tally_of os) (e i).refusal (e i).count (sym l i))
      ∙ grown-one os o (sounds ps) (outcome-sound s c p.north p.east) (subst (λ (n : ℕ). n < 10000) (sym l) few)
      ∙ ap tally_of (sym (outcomes-more ps p)))

  pub nil-right : (ps : List Point) → ps ≡ ps ++ []
  nil-right [] = refl
  nil-right (p ∷ ps) = ap (λ (l : List Point). p ∷ l) (nil-right ps)

  report-from : (qs ps : List Point) → length qs + length ps ≤ 10000 → report_from s (kept_of s) c (length qs) ps (report_so_far qs) ≡ report_so_far (qs ++ ps)
  report-from qs [] h = ap report_so_far (nil-right qs)
  report-from qs (p ∷ ps) h =
      let l : length qs + 1 ≡ length (qs ++ (p ∷ [])) = sym (length-append qs (p ∷ [])) in
      (λ i. report_from s (kept_of s) c (l i) ps (step_is qs p (omega arith) i))
      ∙ report-from (qs ++ (p ∷ [])) ps (omega (arith, length-append qs (p ∷ [])))
      ∙ ap report_so_far (append_assoc qs (p ∷ []) ps)

  -- a refused report stays
  stays : (kept : Kept) (before : ℕ) (ps : List Point) (r : Report) → eqb r.refusal 0 ≡ false → report_from s kept c before ps r ≡ r
  unfolding step_of
  stays kept before [] r e = refl
  stays kept before (p ∷ ps) r e = ap (report_from s kept c (before + 1) ps) (no _ _ e) ∙ stays kept (before + 1) ps r e

  -- the loop over the points gives the report of the list
  pub reports : (ps : List Point) → report_from s (kept_of s) c 0 ps (start_of c (length ps)) ≡ report_of s c ps
  unfolding start_of report_of
  reports ps = go (ltb 2 c) (ltb 10000 (length ps)) refl
    where
      go : (p q : Bool) → ltb 10000 (length ps) ≡ q → report_from s (kept_of s) c 0 ps (report_with (cond p 8 (cond q 3 0)) []) ≡ report_with (cond p 8 (cond q 3 0)) (outcomes s c ps)
      go true q f = stays (kept_of s) 0 ps (report_with 8 []) refl
      go false true f = stays (kept_of s) 0 ps (report_with 3 []) refl
      go false false f = report-from [] ps (omega (arith, ltb-false 10000 (length ps) f))
