-- The smallest and the greatest count are those of an answered point, at its first place, and no answered count is before them.
-- Assumes nothing.
use mathlib.Core.Path.{◌≡◌, refl, sym, ap, ◌∙◌}
use mathlib.Core.Bool.{Bool, true, false, cond, ◌&&◌, ◌||◌}
use mathlib.Core.List.{List, [], ◌∷◌}
use Prim.Native.Nat.{ℕ, zero, suc, ◌+◌, ◌<◌}
use native.Mathlib.Nat.{not-suc-le-zero, le_of_suc-le-suc}
use native.Mathlib.Omega.{arith}
use borrow.Author.Tests.{eqb-true, eq-eqb, ne_eqb}
use lib.Dec.{eqb}
use lib.IntN.{ℤ}
use lib.ListN.{length, get_or}
use Rattle.arith.specs.Whole.{eq_z}
use Rattle.arith.proofs.Whole.{eq_z-refl, eq_z-true}
use Rattle.arith.proofs.Tests.{false-ne-true, both_first, both-second}
use Rattle.grid_counts.specs.declared.Counted.{Counted}
use Rattle.report_update.specs.Numbers.{how_many, counts, extreme, below, above, ahead, place_of, tally_of}
use Rattle.report_update.proofs.Laws.{yes, no}
use Rattle.report_update.proofs.Behind.{counts-many, among}
use Rattle.report_update.proofs.Extremes.{Order, among_none, best-ahead, below-order, above-order}
use Rattle.demands_reports.specs.Points.{no_point, FirstOf, SmallestIs, GreatestIs, NoneAnswered}

-- a point that is answered with z
abbrev with-count : Counted → ℤ → Bool
with-count o z = eqb o.refusal 0 && eq_z o.count z

-- the point with so many ahead is answered with z, and none before it
at_ahead : (z : ℤ) (os : List Counted) → ahead z os < length os → with-count (get_or os (ahead z os) no_point) z ≡ true
at_ahead z [] h = absurd (not-suc-le-zero h)
at_ahead z (o ∷ os) h = by (with-count o z) refl h (at_ahead z os)
  where
    by : (b : Bool) → with-count o z ≡ b → cond b 0 (ahead z os + 1) < suc (length os) → (ahead z os < length os → with-count (get_or os (ahead z os) no_point) z ≡ true)
        → with-count (get_or (o ∷ os) (cond b 0 (ahead z os + 1)) no_point) z ≡ true
    by true e l f = e
    by false e l f =
        let k : ahead z os + 1 ≡ suc (ahead z os) = omega arith in
        ap (λ (i : ℕ). with-count (get_or (o ∷ os) i no_point) z) k ∙ f (omega arith)

before-ahead : (z : ℤ) (os : List Counted) (i : ℕ) → i < ahead z os → with-count (get_or os i no_point) z ≡ false
before-ahead z [] i h = absurd (not-suc-le-zero h)
before-ahead z (o ∷ os) i h = by (with-count o z) refl i h (before-ahead z os)
  where
    by : (b : Bool) → with-count o z ≡ b → (i : ℕ) → i < cond b 0 (ahead z os + 1) → ((i : ℕ) → i < ahead z os → with-count (get_or os i no_point) z ≡ false) → with-count (get_or (o ∷ os) i no_point) z ≡ false
    by true e i l f = absurd (not-suc-le-zero l)
    by false e zero l f = e
    by false e (suc i) l f = f i (omega arith)

-- an answered count is among the counts
among_in : (os : List Counted) (i : ℕ) → i < length os → (get_or os i no_point).refusal ≡ 0 → among (get_or os i no_point).count (counts os) ≡ true
among_in [] i l h = absurd (not-suc-le-zero l)
among_in (o ∷ os) zero l h = ap (among o.count) (yes (o.count ∷ counts os) (counts os) (eq-eqb o.refusal 0 h)) ∙ ap (λ (b : Bool). b || among o.count (counts os)) (eq_z-refl o.count)
among_in (o ∷ os) (suc i) l h = by (eqb o.refusal 0) (eq_z o.count z) refl (among_in os i (le_of_suc-le-suc l) h)
  where
    z : ℤ
    z = (get_or os i no_point).count

    by : (t q : Bool) → eq_z o.count z ≡ q → among z (counts os) ≡ true → among z (cond t (o.count ∷ counts os) (counts os)) ≡ true
    by true true e f = ap (λ (b : Bool). b || among z (counts os)) e
    by true false e f = ap (λ (b : Bool). b || among z (counts os)) e ∙ f
    by false q e f = f

module _ (before : ℤ → ℤ → Bool) (ord : Order before) (os : List Counted) where
  abbrev best : ℤ
  best = extreme before (counts os)

  -- no count among them is before the best
  bounded : (zs : List ℤ) → counts os ≡ zs → (z : ℤ) → among z (counts os) ≡ true → before z best ≡ false
  bounded [] e z h = absurd (false-ne-true (sym (ap (among z) e) ∙ h))
  bounded (w ∷ zs) e z h = by (before z best) refl
    where
      by : (b : Bool) → before z best ≡ b → b ≡ false
      by true f = absurd (false-ne-true (sym (ap (among z) e ∙ among_none before ord w zs z (sym (ap (λ (l : List ℤ). before z (extreme before l)) e) ∙ f)) ∙ h))
      by false f = refl

  first_of : (how_many 0 os ≡ 0 → ⊥) → FirstOf before os best (place_of best os)
  first_of some =
      let l = inside (counts os) refl in
      let w = at_ahead best os l in
      record {
        ahead = ahead best os;
        place = no 0 (ahead best os + 1) (ne_eqb (how_many 0 os) 0 some);
        inside = l;
        answered = eqb-true _ 0 (both_first (eqb (get_or os (ahead best os) no_point).refusal 0) (eq_z (get_or os (ahead best os) no_point).count best) w);
        count = eq_z-true _ best (both-second (eqb (get_or os (ahead best os) no_point).refusal 0) (eq_z (get_or os (ahead best os) no_point).count best) w);
        none = λ i k a e. false-ne-true (sym (before-ahead best os i k) ∙ (λ j. eq-eqb (get_or os i no_point).refusal 0 a j && eq_z (e j) best) ∙ eq_z-refl best);
        bound = λ i k a. bounded (counts os) refl (get_or os i no_point).count (among_in os i k a);
      }
    where
      inside : (zs : List ℤ) → counts os ≡ zs → ahead best os < length os
      inside [] e = absurd (some (sym (counts-many os) ∙ ap length e))
      inside (w ∷ zs) e = best-ahead before ord os w zs e

pub smallest-is : SmallestIs
unfolding tally_of
smallest-is os h = first_of below below-order os h

pub greatest-is : GreatestIs
unfolding tally_of
greatest-is os h = first_of above above-order os h

pub none-answered : NoneAnswered
unfolding tally_of
none-answered os h =
    let t = eq-eqb (how_many 0 os) 0 h in
    let c = empty (counts os) refl in
    (ap (extreme below) c, ap (extreme above) c, yes 0 _ t, yes 0 _ t)
  where
    empty : (zs : List ℤ) → counts os ≡ zs → counts os ≡ []
    empty [] e = e
    empty (w ∷ zs) e = absurd (omega (arith, counts-many os, ap length e, h))
