-- The points of two lists of one length, and their report.
-- Assumes nothing.
use mathlib.Core.Path.{◌≡◌, refl, sym, ap, ◌∙◌}
use mathlib.Core.Bool.{Bool, true, false, not, cond}
use mathlib.Core.Logic.{◌⊎◌, inl, inr}
use mathlib.Core.List.{List, [], ◌∷◌}
use Prim.Native.Nat.{ℕ, zero, suc, ◌<◌}
use native.Mathlib.Nat.{not-suc-le-zero, le_of_suc-le-suc, suc_inj}
use native.Mathlib.Omega.{arith}
use borrow.Author.Tests.{eq-eqb, ne_eqb}
use lib.Dec.{eqb, ltb}
use lib.IntN.{ℤ, pos}
use lib.ListN.{length, get_or}
use Rattle.grid_component.specs.Inner.{kept_of}
use Rattle.report_update.specs.Numbers.{report_with}
use Rattle.report_points.specs.Reports.{outcomes, report_refusal, report_of, points_of, lists_report}
use Rattle.report_points.specs.Private.{start_of, report_from}
use Rattle.report_points.proofs.Walk.{no-point, reports}

pub points-length : (ns es : List ℤ) → length ns ≡ length es → length (points_of ns es) ≡ length ns
points-length [] es e = refl
points-length (n ∷ ns) [] e = absurd (omega arith)
points-length (n ∷ ns) (m ∷ es) e = ap suc (points-length ns es (suc_inj e))

pub points-at : (ns es : List ℤ) (i : ℕ) → length ns ≡ length es → i < length ns → get_or (points_of ns es) i no-point ≡ record { north = get_or ns i (pos 0); east = get_or es i (pos 0) }
points-at [] es i e l = absurd (not-suc-le-zero l)
points-at (n ∷ ns) [] i e l = absurd (omega arith)
points-at (n ∷ ns) (m ∷ es) zero e l = refl
points-at (n ∷ ns) (m ∷ es) (suc i) e l = points-at ns es i (suc_inj e) (le_of_suc-le-suc l)

-- ---- their report

module _ (s : List ℕ) (c : ℕ) (ns es : List ℤ) where
  pub lists-stop : (start_of c (length ns)).refusal ≡ 0 ⊎ (start_of c (length ns) ≡ lists_report s c ns es)
  unfolding start_of lists_report
  lists-stop = go (ltb 2 c) (ltb 10000 (length ns))
    where
      go : (p q : Bool) → ◌≡◌ {A = ℕ} (cond p 8 (cond q 3 0)) 0 ⊎ (report_with (cond p 8 (cond q 3 0)) [] ≡ report_with (cond p 8 (cond q 3 (cond (not (eqb (length ns) (length es))) 3 0))) (outcomes s c (points_of ns es)))
      go true q = inr refl
      go false true = inr refl
      go false false = inl refl

  module _ (z : (start_of c (length ns)).refusal ≡ 0) where
    passed : (ltb 2 c ≡ false) × (ltb 10000 (length ns) ≡ false)
    passed = go (ltb 2 c) (ltb 10000 (length ns)) (unfold start_of in z)
      where
        go : (p q : Bool) → ◌≡◌ {A = ℕ} (cond p 8 (cond q 3 0)) 0 → (p ≡ false) × (q ≡ false)
        go true q e = absurd (omega arith)
        go false true e = absurd (omega arith)
        go false false e = (refl, refl)

    pub lists-unequal : (length ns ≡ length es → ⊥) → report_with 3 [] ≡ lists_report s c ns es
    unfolding lists_report
    lists-unequal f = simp (passed.0, passed.1, ne_eqb (length ns) (length es) f)

  -- lists of one length have the report of their points
  pub lists-are : length ns ≡ length es → report_of s c (points_of ns es) ≡ lists_report s c ns es
  unfolding report_of lists_report
  lists-are e =
      ap (λ (n : ℕ). report_with (report_refusal c n) (outcomes s c (points_of ns es))) (points-length ns es e)
      ∙ ap (λ (k : ℕ). report_with (cond (ltb 2 c) 8 (cond (ltb 10000 (length ns)) 3 k)) (outcomes s c (points_of ns es))) same
    where
      same : ◌≡◌ {A = ℕ} 0 (cond (not (eqb (length ns) (length es))) 3 0)
      same = rw (eq-eqb (length ns) (length es) e)

  pub lists-equal : length ns ≡ length es → report_from s (kept_of s) c 0 (points_of ns es) (start_of c (length ns)) ≡ lists_report s c ns es
  lists-equal e =
      ap (λ (n : ℕ). report_from s (kept_of s) c 0 (points_of ns es) (start_of c n)) (sym (points-length ns es e)) ∙ reports s c (points_of ns es) ∙ lists-are e
