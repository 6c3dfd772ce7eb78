-- What a test of signed numbers says: the machine compares their bits.
-- Assumes nothing.
use Prim.Native.Nat.{◌<◌, ◌^◌}
use mathlib.Core.Path.{◌≡◌, refl, sym, ap, ◌∙◌}
use mathlib.Core.Bool.{Bool, true, false, true≢false}
use borrow.Author.Tests.{eq-eqb, eqb-true, ltb-true}
use native.Mathlib.Nat.{not-suc-le-zero}
use native.Mathlib.Omega.{arith}
use lib.IntN.{ℤ, pos, negsuc, nat_abs}
use lib.Signed.{mag, lt_z, non_neg}
use lib.Dec.{T}
use mir.Syntax.{w64}
use mir.Val.{SFits, of_z, to_z}
use mir.Facts.{to_z-of_z}
use Rattle.arith.specs.Whole.{eq_z, natural}

pub eq_z-refl : (a : ℤ) → eq_z a a ≡ true
eq_z-refl (pos n) = eq-eqb n n refl
eq_z-refl (negsuc n) = eq-eqb n n refl

pub eq_z-true : (a b : ℤ) → eq_z a b ≡ true → a ≡ b
eq_z-true (pos m) (pos n) e = ap pos (eqb-true m n e)
eq_z-true (pos m) (negsuc n) e = let z : ◌≡◌ {A = Bool} true false = cc in cc
eq_z-true (negsuc m) (pos n) e = let z : ◌≡◌ {A = Bool} true false = cc in cc
eq_z-true (negsuc m) (negsuc n) e = ap negsuc (eqb-true m n e)

never : (b : Bool) → (b ≡ true → ⊥) → b ≡ false
never true h = absurd (h refl)
never false h = refl

pub eq_z-false : (a b : ℤ) → (a ≡ b → ⊥) → eq_z a b ≡ false
eq_z-false a b h = never (eq_z a b) (λ e. h (eq_z-true a b e))

-- the same bits, the same number
pub same_bits : {a b : ℤ} → SFits w64 a → SFits w64 b → of_z w64 a ≡ of_z w64 b → a ≡ b
same_bits p q e = sym (to_z-of_z p) ∙ ap (to_z w64) e ∙ to_z-of_z q

pub bits-yes : (a b : ℤ) → SFits w64 a → SFits w64 b → of_z w64 a ≡ of_z w64 b → eq_z a b ≡ true
bits-yes a b p q e = rw (same_bits p q e) (eq_z-refl b)

pub bits-no : (a b : ℤ) → (of_z w64 a ≡ of_z w64 b → ⊥) → eq_z a b ≡ false
bits-no a b h = eq_z-false a b (λ e. h (ap (of_z w64) e))

-- what a test of the sign says of `natural`
pub natural-negative : (z : ℤ) → lt_z z (pos 0) ≡ true → natural z ≡ 0
natural-negative (pos n) t = absurd (not-suc-le-zero (ltb-true n 0 t))
natural-negative (negsuc n) t = refl

pub natural-abs : (z : ℤ) → lt_z z (pos 0) ≡ false → natural z ≡ nat_abs z
natural-abs (pos n) t = refl
natural-abs (negsuc n) t = absurd (true≢false t)

-- a number that is not negative is cast to an unsigned one
pub cast-natural : (z : ℤ) → mag z < 2 ^ 63 → lt_z z (pos 0) ≡ false → T (non_neg z) × (nat_abs z < 2 ^ 64)
cast-natural (pos n) f t = (tt, omega arith)
cast-natural (negsuc n) f t = absurd (true≢false t)
