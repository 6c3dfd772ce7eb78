-- The exact numbers of a list of points, by what each is answered: request A10, whose words are quoted.
-- Assumes nothing.
use Rattle.std.specs.Prelude.{ℕ, ◌+◌, Bool, cond, ◌&&◌, List, [], ◌∷◌, eqb, ℤ, pos, ◌+ℤ◌}
use Rattle.std.specs.Int.Signed.{lt_z}
use Rattle.arith.specs.Lists.{up_to}
use Rattle.arith.specs.Whole.{eq_z}
use Rattle.grid_counts.specs.declared.Counted.{Counted}
use Rattle.report_update.specs.declared.Tally.{Tally}
use Rattle.report_update.specs.declared.Report.{Report}

-- "points refused under each number" n; those under 0 are the "points answered"
abbrev pub how_many : ℕ → List Counted → ℕ
how_many n [] = 0
how_many n (o ∷ os) = cond (eqb o.refusal n) 1 0 + how_many n os

-- the counts of the points answered
abbrev pub counts : List Counted → List ℤ
counts [] = []
counts (o ∷ os) = cond (eqb o.refusal 0) (o.count ∷ counts os) (counts os)

-- "the sum of counts"
abbrev pub sum_of : List ℤ → ℤ
sum_of [] = pos 0
sum_of (z ∷ zs) = z +ℤ sum_of zs

-- "the smallest and the greatest count": the first in an order, and zero of none
abbrev pub extreme : (ℤ → ℤ → Bool) → List ℤ → ℤ
extreme before [] = pos 0
extreme before (z ∷ []) = z
extreme before (z ∷ w ∷ zs) = cond (before (extreme before (w ∷ zs)) z) (extreme before (w ∷ zs)) z

abbrev pub below : ℤ → ℤ → Bool
below a b = lt_z a b

abbrev pub above : ℤ → ℤ → Bool
above a b = lt_z b a

-- how many points stand before the first one that is answered with the count z
abbrev pub ahead : ℤ → List Counted → ℕ
ahead z [] = 0
ahead z (o ∷ os) = cond (eqb o.refusal 0 && eq_z o.count z) 0 (ahead z os + 1)

-- "their first places, from 1": "with answered 0 .. zero"
abbrev pub place_of : ℤ → List Counted → ℕ
place_of z os = cond (eqb (how_many 0 os) 0) 0 (ahead z os + 1)

-- place n - 1 of a tally's refused is the number n, "from 1 to 15"
abbrev pub refused_under : List Counted → ℕ → ℕ
refused_under os i = how_many (i + 1) os

unfoldable pub tally_of : List Counted → Tally
tally_of os =
    record {
      answered = how_many 0 os;
      refused = up_to (refused_under os) 15;
      smallest = extreme below (counts os);
      greatest = extreme above (counts os);
      smallest_place = place_of (extreme below (counts os)) os;
      greatest_place = place_of (extreme above (counts os)) os;
      sum = sum_of (counts os);
    }

abbrev pub total : List ℕ → ℕ
total [] = 0
total (k ∷ ks) = k + total ks

-- "answered plus refused"
abbrev pub points_in : Tally → ℕ
points_in t = t.answered + total t.refused

-- a refusal with the tally of no points, all zeros; or 0 and the tally
abbrev pub report_with : ℕ → List Counted → Report
report_with r os = record { refusal = r; tally = tally_of (cond (eqb r 0) os []) }
