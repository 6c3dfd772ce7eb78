-- Equality of whole numbers as a test, open (eq_z) and shut (same_z, which a proof can name), and the natural part of a whole number.
-- Assumes nothing.
use Rattle.std.specs.Prelude.{Bool, false, ℕ, ℤ, pos, negsuc, eqb}

-- the same whole number
abbrev pub eq_z : ℤ → ℤ → Bool
eq_z (pos m) (pos n) = eqb m n
eq_z (pos m) (negsuc n) = false
eq_z (negsuc m) (pos n) = false
eq_z (negsuc m) (negsuc n) = eqb m n

unfoldable pub same_z : ℤ → ℤ → Bool
same_z a b = eq_z a b

-- n for n, and 0 for a negative number
abbrev pub natural : ℤ → ℕ
natural (pos n) = n
natural (negsuc n) = 0
