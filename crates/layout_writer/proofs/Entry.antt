-- The pattern of what a field takes, as writers give it.
-- Assumes nothing.
use Rattle.std.proofs.Common.{Option, Some, None}
use mathlib.Core.Path.{◌≡◌, refl, sym, ◌∙◌}
use mathlib.Core.Bool.{Bool, true, false, cond}
use Prim.Native.Nat.{ℕ}
use lib.Dec.{ltb, eqb}
use lib.IntN.{ℤ, pos, negsuc, nat_abs}
use Rattle.arith.proofs.Tests.{false-ne-true, both_first}
use Rattle.field.specs.Field.{pattern_of, none_of}
use Rattle.field.specs.Inner.{fits}
use Rattle.layout.specs.Layout.{width, signed, of_width, takes, reading_in}

-- what a signed field takes fits it
pub taken-fits : (e : ℕ) (r : Option ℤ) → signed e ≡ true → takes e r ≡ true → fits (width e) r ≡ true
taken-fits e (Some z) s t = both_first (ltb (nat_abs z) (none_of (width e))) _ (rw s at t)
taken-fits e None s t = refl

-- what an unsigned field takes is a number
unsigned-pattern : (w : ℕ) (z : ℤ) → of_width false w z ≡ true → pattern_of w (Some z) ≡ nat_abs z
unsigned-pattern w (pos n) t = refl
unsigned-pattern w (negsuc n) t = absurd (false-ne-true t)

pub unsigned-place : (e : ℕ) (z : ℤ) (b : ℕ) → signed e ≡ false → takes e (reading_in z b) ≡ true → pattern_of (width e) (reading_in z b) ≡ nat_abs z
unsigned-place e z b s = by (eqb b 1)
  where
    by : (x : Bool) → takes e (cond x (Some z) None) ≡ true → pattern_of (width e) (cond x (Some z) None) ≡ nat_abs z
    by true t = unsigned-pattern (width e) z (both_first (of_width false (width e) z) _ (rw s at t))
    by false t = absurd (false-ne-true (sym s ∙ t))
