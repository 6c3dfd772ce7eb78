-- A character: what the test of a signed number says of it.
-- Assumes nothing.
use mathlib.Core.Path.{◌≡◌, refl, ◌∙◌}
use mathlib.Core.Bool.{true, false, true≢false}
use Prim.Native.Nat.{◌%◌, ◌^◌, ◌≤◌, ◌<◌}
use native.Mathlib.Omega.{arith}
use lib.Dec.{T}
use lib.IntN.{ℤ, pos, negsuc, nat_abs}
use lib.Signed.{mag, lt_z, non_neg, quot_z, rem_z}
use mir.Syntax.{w8, w64}
use mir.Val.{SFits, Fits, to_z, of_z}
use Rattle.arith.specs.Whole.{natural}
use Rattle.arith.proofs.Back.{held}
use Rattle.arith.proofs.Whole.{natural-negative}

not-below : (z : ℤ) → lt_z z (pos 0) ≡ false → z ≡ pos (natural z)
not-below (pos n) t = refl
not-below (negsuc n) t = absurd (true≢false t)

natural-mag : (z : ℤ) → natural z ≤ mag z
natural-mag (pos n) = omega arith
natural-mag (negsuc n) = omega arith

-- the tests are of the number's bits
module _ (z : ℤ) (f : mag z < 2 ^ 63) where
  pub no_char : lt_z (to_z w64 (of_z w64 z)) (pos 0) ≡ true → 0 ≡ natural z % 256
  no_char t = rw (natural-negative z (rw (held z f) at t))

  module _ (t : lt_z (to_z w64 (of_z w64 z)) (pos 0) ≡ false) where
    kept : to_z w64 (of_z w64 z) ≡ pos (natural z)
    kept = held z f ∙ not-below z (rw (held z f) at t)

    pub rem-fits : SFits w64 (quot_z (to_z w64 (of_z w64 z)) (pos 256))
    rem-fits = rw kept (record { sfits = omega (arith, natural-mag z) })

    is-rem : to_z w64 (of_z w64 (rem_z (to_z w64 (of_z w64 z)) (pos 256))) ≡ pos (natural z % 256)
    is-rem = rw kept (held (pos (natural z % 256)) (omega arith))

    pub char-cast : T (non_neg (to_z w64 (of_z w64 (rem_z (to_z w64 (of_z w64 z)) (pos 256))))) × Fits w8 (nat_abs (to_z w64 (of_z w64 (rem_z (to_z w64 (of_z w64 z)) (pos 256)))))
    char-cast = rw is-rem (tt, omega arith)

    pub is-char : nat_abs (to_z w64 (of_z w64 (rem_z (to_z w64 (of_z w64 z)) (pos 256)))) ≡ natural z % 256
    is-char = rw is-rem
