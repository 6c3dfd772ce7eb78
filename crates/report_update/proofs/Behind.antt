-- One outcome behind the others: how many there are, the counts, their sum, and how many stand ahead of a count.
-- Assumes nothing.
use mathlib.Core.Path.{◌≡◌, refl, sym, ap, ◌∙◌}
use mathlib.Core.Bool.{Bool, true, false, cond, ◌&&◌, ◌||◌}
use mathlib.Core.List.{List, [], ◌∷◌, ◌++◌}
use Prim.Native.Nat.{ℕ, suc, ◌+◌, ◌<◌}
use native.Mathlib.Omega.{arith}
use lib.Dec.{eqb}
use lib.IntN.{ℤ, ◌+ℤ◌, +ℤ_assoc, +ℤ_idl, +ℤ_idr}
use lib.ListN.{length}
use Rattle.arith.specs.Whole.{eq_z}
use Rattle.arith.proofs.Tests.{false-ne-true}
use Rattle.grid_counts.specs.declared.Counted.{Counted}
use Rattle.report_update.specs.Numbers.{how_many, counts, sum_of, ahead}
use Rattle.report_update.proofs.Laws.{yes, no}

-- ---- one outcome behind the others

abbrev pub one : Counted → List Counted
one o = o ∷ []

pub many_more : (n : ℕ) (os : List Counted) (o : Counted) → how_many n (os ++ one o) ≡ how_many n os + cond (eqb o.refusal n) 1 0
many_more n [] o = omega arith
many_more n (x ∷ os) o = omega (arith, many_more n os o)

pub counts-answered : (os : List Counted) (o : Counted) → eqb o.refusal 0 ≡ true → counts (os ++ one o) ≡ counts os ++ (o.count ∷ [])
counts-answered [] o e = yes _ _ e
counts-answered (x ∷ os) o e = both (eqb x.refusal 0) (counts-answered os o e)
  where
    both : (t : Bool) → counts (os ++ one o) ≡ counts os ++ (o.count ∷ []) → cond t (x.count ∷ counts (os ++ one o)) (counts (os ++ one o)) ≡ cond t (x.count ∷ counts os) (counts os) ++ (o.count ∷ [])
    both true h = ap (λ (l : List ℤ). x.count ∷ l) h
    both false h = h

pub counts-refused : (os : List Counted) (o : Counted) → eqb o.refusal 0 ≡ false → counts (os ++ one o) ≡ counts os
counts-refused [] o e = no _ _ e
counts-refused (x ∷ os) o e = ap (λ (l : List ℤ). cond (eqb x.refusal 0) (x.count ∷ l) l) (counts-refused os o e)

pub sum_more : (zs : List ℤ) (z : ℤ) → sum_of (zs ++ (z ∷ [])) ≡ sum_of zs +ℤ z
sum_more [] z = +ℤ_idr z ∙ sym (+ℤ_idl z)
sum_more (x ∷ zs) z = ap (λ (w : ℤ). x +ℤ w) (sum_more zs z) ∙ sym (+ℤ_assoc x (sum_of zs) z)

-- the points answered are as many as their counts
pub counts-many : (os : List Counted) → length (counts os) ≡ how_many 0 os
counts-many [] = refl
counts-many (x ∷ os) = both (eqb x.refusal 0) (counts-many os)
  where
    both : (t : Bool) → length (counts os) ≡ how_many 0 os → length (cond t (x.count ∷ counts os) (counts os)) ≡ cond t 1 0 + how_many 0 os
    both true h = omega arith
    both false h = omega arith

-- ---- a count among others, and how many outcomes stand ahead of it

pub plus-zero : (n : ℕ) → n + 0 ≡ n
plus-zero n = omega arith

abbrev pub among : ℤ → List ℤ → Bool
among z [] = false
among z (w ∷ zs) = eq_z w z || among z zs

pub ahead-out : (z : ℤ) (os : List Counted) → among z (counts os) ≡ false → ahead z os ≡ length os
ahead-out z [] h = refl
ahead-out z (x ∷ os) h = merge (eqb x.refusal 0) (eq_z x.count z) refl h (ahead-out z os)
  where
    merge : (t q : Bool) → eq_z x.count z ≡ q → among z (cond t (x.count ∷ counts os) (counts os)) ≡ false → (among z (counts os) ≡ false → ahead z os ≡ length os) → cond (t && q) 0 (ahead z os + 1) ≡ suc (length os)
    merge true true e h f = absurd (false-ne-true (sym h ∙ ap (λ (b : Bool). b || among z (counts os)) e))
    merge true false e h f = omega (arith, f (sym (ap (λ (b : Bool). b || among z (counts os)) e) ∙ h))
    merge false q e h f = omega (arith, f h)

pub ahead_in : (z : ℤ) (os : List Counted) → among z (counts os) ≡ true → ahead z os < length os
ahead_in z [] h = absurd (false-ne-true h)
ahead_in z (x ∷ os) h = merge (eqb x.refusal 0) (eq_z x.count z) refl h (ahead_in z os)
  where
    merge : (t q : Bool) → eq_z x.count z ≡ q → among z (cond t (x.count ∷ counts os) (counts os)) ≡ true → (among z (counts os) ≡ true → ahead z os < length os) → cond (t && q) 0 (ahead z os + 1) < suc (length os)
    merge true true e h f = omega arith
    merge true false e h f = omega (arith, f (sym (ap (λ (b : Bool). b || among z (counts os)) e) ∙ h))
    merge false q e h f = omega (arith, f h)

pub ahead-front : (z : ℤ) (os ps : List Counted) → ahead z os < length os → ahead z (os ++ ps) ≡ ahead z os
ahead-front z [] ps h = absurd (omega arith)
ahead-front z (x ∷ os) ps h = merge (eqb x.refusal 0 && eq_z x.count z) h (ahead-front z os ps)
  where
    merge : (t : Bool) → cond t 0 (ahead z os + 1) < suc (length os) → (ahead z os < length os → ahead z (os ++ ps) ≡ ahead z os) → cond t 0 (ahead z (os ++ ps) + 1) ≡ cond t 0 (ahead z os + 1)
    merge true h f = refl
    merge false h f = ap (λ (k : ℕ). k + 1) (f (omega arith))

pub ahead-behind : (z : ℤ) (os ps : List Counted) → ahead z os ≡ length os → ahead z (os ++ ps) ≡ length os + ahead z ps
ahead-behind z [] ps h = omega arith
ahead-behind z (x ∷ os) ps h = merge (eqb x.refusal 0 && eq_z x.count z) h (ahead-behind z os ps)
  where
    merge : (t : Bool) → cond t 0 (ahead z os + 1) ≡ suc (length os) → (ahead z os ≡ length os → ahead z (os ++ ps) ≡ length os + ahead z ps) → cond t 0 (ahead z (os ++ ps) + 1) ≡ suc (length os) + ahead z ps
    merge true h f = absurd (omega arith)
    merge false h f = omega (arith, f (omega arith))
