-- The mean of a height grid: request A11 of document 02, whose words are quoted. Wanted heights are whole millimetres, that of node 1 first.
-- Assumes nothing.
use Rattle.std.specs.Prelude.{ℕ, zero, suc, Bool, cond, Option, Some, None, List, leb, ℤ, pos, negsuc, nat_abs, ◌+ℤ◌, ◌-ℤ◌, ◌*ℤ◌}
use Rattle.arith.specs.Lists.{at, all_below}

-- a height less the mean, in the resolution of DF201, 0.001 m: that of DF198 is 0.01 m
unfoldable pub less : ℤ → ℤ → ℤ
less height mean = height -ℤ pos 10 *ℤ mean

-- "lies within ±255 mm"
unfoldable pub near : ℤ → ℤ → Bool
near mean height = leb (nat_abs (less height mean)) 255

abbrev pub near_at : List ℤ → ℤ → ℕ → Bool
near_at wanted mean i = near mean (at wanted i)

-- "every height less the mean lies within ±255 mm", of sixteen: a height behind the end of a shorter list is 0
unfoldable pub fits : List ℤ → ℤ → Bool
fits wanted mean = all_below (near_at wanted mean) 16

-- the first of the n means from m on that passes the test
unfoldable pub first_from : (ℤ → Bool) → ℕ → ℤ → Option ℤ
first_from test zero m = None
first_from test (suc n) m = cond (test m) (Some m) (first_from test n (m +ℤ pos 1))

-- "the smallest mean DF198 from -16,383 to 16,383": 32,767 numbers
unfoldable pub smallest_mean : List ℤ → Option ℤ
smallest_mean wanted = first_from (fits wanted) 32767 (negsuc 16382)
