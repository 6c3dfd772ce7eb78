-- The demands of request A10, as statements; its words are quoted.
-- Assumes nothing.
use Rattle.std.specs.Prelude.{ℕ, ◌+◌, ◌≤◌, ◌<◌, ◌≡◌, Bool, false, List, [], ◌∷◌, ◌++◌, ℤ, pos, length, get_or}
use Rattle.grid_counts.specs.Counts.{refused_with}
use Rattle.grid_counts.specs.declared.Counted.{Counted}
use Rattle.report_update.specs.declared.Tally.{Tally}
use Rattle.report_update.specs.Numbers.{below, above, tally_of, points_in}
use Rattle.report_tally.specs.Next.{next_of}
use Rattle.report_points.specs.declared.Point.{Point}
use Rattle.report_points.specs.Reports.{report_of, points_of, lists_report}

-- ---- "A running tally record .. updated point by point, from all zeros and with one message and component"

abbrev pub zeros : Tally
zeros = tally_of []

abbrev pub running_from : List ℕ → ℕ → List Point → Tally → Tally
running_from s c [] t = t
running_from s c (p ∷ ps) t = running_from s c ps (next_of t s c p.north p.east).tally

abbrev pub running : List ℕ → ℕ → List Point → Tally
running s c ps = running_from s c ps zeros

-- "must agree with the whole-list report after every point": of every list that a report takes
abbrev pub RunningIsReport : Type 0
RunningIsReport = (s : List ℕ) (c : ℕ) (ps : List Point) → c ≤ 2 → length ps ≤ 10000 → record { refusal = 0; tally = running s c ps } ≡ report_of s c ps

-- and no point of it is refused by the tally
abbrev pub AfterEveryPoint : Type 0
AfterEveryPoint =
    (s : List ℕ) (c : ℕ) (ps : List Point) (p : Point) → c ≤ 2 → length ps < 10000 → next_of (running s c ps) s c p.north p.east ≡ report_of s c (ps ++ (p ∷ []))

-- with a component that is none, both are all zeros, and each answers COMPONENT
abbrev pub RefusedComponent : Type 0
RefusedComponent =
    (s : List ℕ) (c : ℕ) (ps : List Point) (p : Point) → 2 < c
    → (running s c ps ≡ (report_of s c ps).tally) × ((report_of s c ps).refusal ≡ 8) × ((next_of (running s c ps) s c p.north p.east).refusal ≡ 8)

-- a refused update changes nothing
abbrev pub RefusedKeeps : Type 0
RefusedKeeps = (t : Tally) (s : List ℕ) (c : ℕ) (n e : ℤ) → ((next_of t s c n e).refusal ≡ 0 → ⊥) → (next_of t s c n e).tally ≡ t

-- "with answered 0, smallest, greatest and places are .. in a lent tally read as zero": an update is refused as that of the tally with zeros there, and where it is not, it is the same
abbrev pub with_zeros : Tally → Tally
with_zeros t = record { answered = t.answered; refused = t.refused; smallest = pos 0; greatest = pos 0; smallest_place = 0; greatest_place = 0; sum = t.sum }

abbrev pub ReadAsZero : Type 0
ReadAsZero =
    (t : Tally) (s : List ℕ) (c : ℕ) (n e : ℤ) → t.answered ≡ 0
    → ((next_of t s c n e).refusal ≡ (next_of (with_zeros t) s c n e).refusal) × ((next_of t s c n e).refusal ≡ 0 → next_of t s c n e ≡ next_of (with_zeros t) s c n e)

-- ---- the numbers of a report

-- "Answered plus refused equals the points given"
abbrev pub GivenIsAll : Type 0
GivenIsAll = (s : List ℕ) (c : ℕ) (ps : List Point) → c ≤ 2 → length ps ≤ 10000 → points_in (report_of s c ps).tally ≡ length ps

-- what stands behind the end of a list
abbrev pub no_point : Counted
no_point = refused_with 15

-- a count z and a place k: `ahead` points stand before the first one that is answered with z, and no point is answered with a count before z in the order
pub record FirstOf (before : ℤ → ℤ → Bool) (os : List Counted) (z : ℤ) (k : ℕ) : Type 0 where
  pub ahead : ℕ
  pub place : k ≡ ahead + 1
  pub inside : ahead < length os
  pub answered : (get_or os ahead no_point).refusal ≡ 0
  pub count : (get_or os ahead no_point).count ≡ z
  pub none : (i : ℕ) → i < ahead → (get_or os i no_point).refusal ≡ 0 → (get_or os i no_point).count ≡ z → ⊥
  pub bound : (i : ℕ) → i < length os → (get_or os i no_point).refusal ≡ 0 → before (get_or os i no_point).count z ≡ false

-- "the smallest and the greatest count and their first places, from 1", where a point is answered
abbrev pub SmallestIs : Type 0
SmallestIs = (os : List Counted) → ((tally_of os).answered ≡ 0 → ⊥) → FirstOf below os (tally_of os).smallest (tally_of os).smallest_place

abbrev pub GreatestIs : Type 0
GreatestIs = (os : List Counted) → ((tally_of os).answered ≡ 0 → ⊥) → FirstOf above os (tally_of os).greatest (tally_of os).greatest_place

-- "with answered 0, smallest, greatest and places are zero"
abbrev pub NoneAnswered : Type 0
NoneAnswered =
    (os : List Counted) → (tally_of os).answered ≡ 0
    → ((tally_of os).smallest ≡ pos 0) × ((tally_of os).greatest ≡ pos 0) × ((tally_of os).smallest_place ≡ 0) × ((tally_of os).greatest_place ≡ 0)

-- two lists of one length have the report of their points
abbrev pub ListsArePoints : Type 0
ListsArePoints = (s : List ℕ) (c : ℕ) (ns es : List ℤ) → length ns ≡ length es → report_of s c (points_of ns es) ≡ lists_report s c ns es
