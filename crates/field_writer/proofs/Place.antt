-- What is written where a field stands in the bytes or does not.
-- Assumes nothing.
use Rattle.std.proofs.Common.{Option, Some}
use mathlib.Core.Path.{◌≡◌, refl}
use mathlib.Core.Bool.{Bool, true, false, cond}
use mathlib.Core.List.{List}
use Prim.Native.Nat.{ℕ, ◌^◌, ◌≤◌, ◌<◌}
use lib.IntN.{ℤ, nat_abs}
use borrow.Author.Tests.{lt-ltb, le-ltb}
use Rattle.field.specs.Inner.{contains, fits, put_field, put_signed}
use Rattle.field.specs.Field.{none_of, pattern_of, set_field}
use Rattle.field.proofs.Place.{wide}

module _ (s : List ℕ) (p w : ℕ) where
  pub put-wide : (r : Option ℤ) → 63 < w → put_signed s p w r ≡ s
  unfolding put_signed put_field
  put-wide r h = rw (wide s p w h) (by (fits w r))
    where
      by : (b : Bool) → cond b s s ≡ s
      by true = refl
      by false = refl

  pub put-value : (z : ℤ) → nat_abs z < none_of w → put_signed s p w (Some z) ≡ put_field s p w (pattern_of w (Some z))
  unfolding put_signed
  put-value z h = rw (lt-ltb (nat_abs z) (none_of w) h)

  pub put-nothing : (z : ℤ) → none_of w ≤ nat_abs z → put_signed s p w (Some z) ≡ s
  unfolding put_signed
  put-nothing z h = rw (le-ltb (nat_abs z) (none_of w) h)

  -- what fits, in a field that the bytes contain
  module _ (i : contains s p w ≡ true) where
    pub put-inside : (v : ℕ) → v < 2 ^ w → put_field s p w v ≡ set_field s p w v
    unfolding put_field
    put-inside v h = rw (i, lt-ltb v (2 ^ w) h)

    pub put-fitting : (r : Option ℤ) → fits w r ≡ true → pattern_of w r < 2 ^ w → put_signed s p w r ≡ set_field s p w (pattern_of w r)
    unfolding put_signed
    put-fitting r f h = rw f (put-inside (pattern_of w r) h)
