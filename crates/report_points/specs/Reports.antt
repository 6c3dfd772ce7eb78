-- The report of a list of points and one component: request A10, whose words are quoted.
-- Assumes nothing.
use Rattle.std.specs.Prelude.{ℕ, not, List, [], ◌∷◌, ◌++◌, eqb, ltb, ℤ, length}
use Rattle.arith.specs.First.{Test, first}
use Rattle.grid_counts.specs.declared.Counted.{Counted}
use Rattle.report_update.specs.declared.Report.{Report}
use Rattle.report_update.specs.Numbers.{report_with}
use Rattle.report_tally.specs.Next.{outcome_at}
use Rattle.report_points.specs.declared.Point.{Point}

-- what is answered at each point
abbrev pub outcomes : List ℕ → ℕ → List Point → List Counted
outcomes s c [] = []
outcomes s c (p ∷ ps) = outcome_at s c p.north p.east ∷ outcomes s c ps

-- "COMPONENT, then LENGTH above 10,000 points"
abbrev pub report_tests : ℕ → ℕ → List Test
report_tests c points = (8, ltb 2 c) ∷ (3, ltb 10000 points) ∷ []

abbrev pub report_refusal : ℕ → ℕ → ℕ
report_refusal c points = first (report_tests c points)

unfoldable pub report_of : List ℕ → ℕ → List Point → Report
report_of s c ps = report_with (report_refusal c (length ps)) (outcomes s c ps)

-- the points whose coordinates stand in two lists
abbrev pub points_of : List ℤ → List ℤ → List Point
points_of (n ∷ ns) (e ∷ es) = record { north = n; east = e } ∷ points_of ns es
points_of [] es = []
points_of (n ∷ ns) [] = []

-- LENGTH too where the lists differ in length
abbrev pub lists_refusal : ℕ → ℕ → ℕ → ℕ
lists_refusal c norths easts = first (report_tests c norths ++ ((3, not (eqb norths easts)) ∷ []))

unfoldable pub lists_report : List ℕ → ℕ → List ℤ → List ℤ → Report
lists_report s c ns es = report_with (lists_refusal c (length ns) (length es)) (outcomes s c (points_of ns es))
