-- Laws of `first`: what an answer of 0 says of the tests, and one list of tests behind another.
-- Assumes nothing.
use Prim.Native.Nat.{ℕ, zero, suc}
use native.Mathlib.Nat.{lt_irrefl}
use native.Mathlib.Omega.{arith}
use mathlib.Core.Path.{◌≡◌, refl, sym, ap, ◌∙◌}
use mathlib.Core.Bool.{Bool, true, false, not, cond, ◌&&◌, ◌||◌}
use mathlib.Core.List.{List, [], ◌∷◌, ◌++◌}
use borrow.Author.Tests.{eq-eqb, ne_eqb}
use lib.Dec.{T, eqb, eqb-suc-zero}
use Rattle.arith.specs.First.{Test, first}

-- a test that did not refuse, and those behind it
pub passed : (n : ℕ) (b : Bool) (m : ℕ) → cond b (suc n) m ≡ 0 → (b ≡ false) × (m ≡ 0)
passed n true m h = absurd (lt_irrefl 0 (omega arith))
passed n false m h = (refl, h)

pub not-false : (b : Bool) → not b ≡ false → b ≡ true
not-false true e = refl
not-false false e = sym e

pub or-false : (a b : Bool) → (a || b) ≡ false → (a ≡ false) × (b ≡ false)
or-false true b e = let z : ◌≡◌ {A = ℕ} 0 1 = cc in absurd (lt_irrefl 0 (omega arith))
or-false false b e = (refl, e)

-- no test has the number 0
abbrev pub positive : List Test → Bool
positive [] = true
positive (t ∷ ts) = not (eqb t.0 0) && positive ts

-- one list of tests behind another
pub first-append : (a b : List Test) → T (positive a) → first (a ++ b) ≡ cond (eqb (first a) 0) (first b) (first a)
first-append [] b p = refl
first-append (t ∷ a) b p = by t.0 t.1 p (first-append a b)
  where
    by : (n : ℕ) (x : Bool) → T (not (eqb n 0) && positive a) → (T (positive a) → first (a ++ b) ≡ cond (eqb (first a) 0) (first b) (first a))
        → cond x n (first (a ++ b)) ≡ cond (eqb (cond x n (first a)) 0) (first b) (cond x n (first a))
    by zero true p h = absurd p
    by zero false p h = absurd p
    by (suc n) true p h = rw (eqb-suc-zero n)
    by (suc n) false p h = h (rw (eqb-suc-zero n) at p)

-- ---- lists of tests one behind the other

pub stops : (a b : List Test) → T (positive a) → {r : ℕ} → r ≡ first a → (r ≡ 0 → ⊥) → r ≡ first (a ++ b)
stops a b p {r} e h = e ∙ sym (first-append a b p ∙ ap (λ (t : Bool). cond t (first b) (first a)) (ne_eqb (first a) 0 (λ z. h (e ∙ z))))

pub goes_on : (a b : List Test) → T (positive a) → first a ≡ 0 → first b ≡ first (a ++ b)
goes_on a b p e = sym (first-append a b p ∙ ap (λ (t : Bool). cond t (first b) (first a)) (eq-eqb (first a) 0 e))

-- no test of both held
pub passes : (a b : List Test) → T (positive a) → first (a ++ b) ≡ 0 → (first a ≡ 0) × (first b ≡ 0)
passes a b p e = by (first a) refl (sym (first-append a b p) ∙ e)
  where
    by : (n : ℕ) → first a ≡ n → cond (eqb (first a) 0) (first b) (first a) ≡ 0 → (first a ≡ 0) × (first b ≡ 0)
    by zero f h = (f, rw (eq-eqb (first a) 0 f) at h)
    by (suc n) f h = let z : first a ≡ 0 = rw (ne_eqb (first a) 0 (λ q. absurd (omega arith))) at h in absurd (omega arith)
