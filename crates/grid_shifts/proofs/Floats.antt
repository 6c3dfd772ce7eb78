-- A count as a float: nothing is lost, and the constants of the code are the two divisors.
-- Assumes nothing.
use mathlib.Core.Path.{◌≡◌, refl}
use Prim.Native.Nat.{◌≤◌}
use native.Mathlib.Omega.{arith}
use lib.Dec.{T, le→leb, lt→ltb}
use lib.IntN.{ℤ, pos, negsuc, nat_abs}
use lib.Ieee.{Float, nan, inf, fin, binary64, in_float, in_signed, whole, of_int, of_bits, to_signed}
use lib.Ieee.Back.{positive_back, negative_back}
use lib.Ieee.Fits.{and_l}

pub in-float : (z : ℤ) → nat_abs z ≤ 9007199254740992 → T (in_float binary64 z)
unfolding in_float
in-float (pos n) h = le→leb n 9007199254740992 h
in-float (negsuc n) h = lt→ltb n 9007199254740992 h

-- the float is a whole number, and as an integer again it is the count
is_whole : (x : Float) → T (in_signed binary64 63 x) → T (whole binary64 x)
unfolding in_signed
is_whole nan t = absurd t
is_whole (inf s) t = absurd t
is_whole (fin s m e) t = and_l (whole binary64 (fin s m e)) _ t

pub lossless : (z : ℤ) → nat_abs z ≤ 9007199254740992 → T (whole binary64 (of_int binary64 z)) × (to_signed 63 (of_int binary64 z) ≡ z)
lossless (pos n) h = let b = positive_back binary64 63 n (in-float (pos n) h) (omega arith) in (is_whole (of_int binary64 (pos n)) b.0, b.1)
lossless (negsuc k) h = let b = negative_back binary64 63 k (in-float (negsuc k) h) (omega arith) in (is_whole (of_int binary64 (negsuc k)) b.0, b.1)

-- 100000.0 and 10000.0 as the code stores them
pub per-second : of_bits binary64 4681608360884174848 ≡ of_int binary64 (pos 100000)
unfolding of_bits of_int
per-second = refl

pub per-metre : of_bits binary64 4666723172467343360 ≡ of_int binary64 (pos 10000)
unfolding of_bits of_int
per-metre = refl
