-- The text of a signed number of 64 bits, by its sign.
-- Assumes nothing.
use mathlib.Core.Path.{◌≡◌, refl}
use mathlib.Core.Bool.{true, false, true≢false}
use mathlib.Core.List.{◌∷◌}
use native.Mathlib.Nat.{not-suc-le-zero}
use lib.IntN.{ℤ, pos, negsuc, nat_abs}
use lib.Signed.{lt_z}
use mir.Syntax.{w64}
use mir.Val.{SFits, to_z, of_z}
use mir.ValLaws.{to_z-of_z}
use borrow.Author.Tests.{ltb-true}
use Rattle.text_numerals.specs.Inner.{decimal, whole_decimal}

-- the text of a number by its sign
negative-text : (z : ℤ) → lt_z z (pos 0) ≡ true → whole_decimal z ≡ 45 ∷ decimal (nat_abs z)
unfolding whole_decimal
negative-text (pos n) t = absurd (not-suc-le-zero (ltb-true n 0 t))
negative-text (negsuc n) t = refl

positive-text : (z : ℤ) → lt_z z (pos 0) ≡ false → whole_decimal z ≡ decimal (nat_abs z)
unfolding whole_decimal
positive-text (pos n) t = refl
positive-text (negsuc n) t = absurd (true≢false t)

module _ (z : ℤ) (f : SFits w64 z) where
  pub other_text : lt_z (to_z w64 (of_z w64 z)) (pos 0) ≡ false → whole_decimal z ≡ decimal (nat_abs z)
  other_text t = positive-text z (rw (to_z-of_z w64 z f) at t)

  pub below-text : lt_z (to_z w64 (of_z w64 z)) (pos 0) ≡ true → whole_decimal z ≡ 45 ∷ decimal (nat_abs z)
  below-text t = negative-text z (rw (to_z-of_z w64 z f) at t)
