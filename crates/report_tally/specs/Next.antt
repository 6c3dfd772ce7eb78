-- A running tally of points and one component: request A10, whose words are quoted.
-- Assumes nothing.
use Rattle.std.specs.Prelude.{ℕ, ◌+◌, cond, ◌||◌, List, [], ◌∷◌, eqb, leb, ltb, ℤ, nat_abs}
use Rattle.arith.specs.First.{first}
use Rattle.grid_shifts.specs.Shift.{message_shift}
use Rattle.grid_component.specs.Component.{counted}
use Rattle.grid_counts.specs.declared.Counted.{Counted}
use Rattle.report_update.specs.declared.Tally.{Tally}
use Rattle.report_update.specs.declared.Report.{Report}
use Rattle.report_update.specs.Numbers.{points_in}
use Rattle.report_update.specs.Update.{with_outcome}

-- what is answered at a point, that component's part of A3's call: "a bad message counts at each point"
abbrev pub outcome_at : List ℕ → ℕ → ℤ → ℤ → Counted
outcome_at s c n e = counted (message_shift s c n e)

-- "COMPONENT, then LENGTH .. for a tally of 10,000 or more or with a sum past ±10^11"
unfoldable pub next_refusal : Tally → ℕ → ℕ
next_refusal t c = first ((8, ltb 2 c) ∷ (3, leb 10000 (points_in t) || ltb 100000000000 (nat_abs t.sum)) ∷ [])

-- one point more with refusal 0; with a refusal the tally is as it was
unfoldable pub next_of : Tally → List ℕ → ℕ → ℤ → ℤ → Report
next_of t s c n e =
    record {
      refusal = next_refusal t c;
      tally =
          cond (eqb (next_refusal t c) 0)
          (with_outcome t (outcome_at s c n e).refusal (outcome_at s c n e).count (points_in t + 1))
          t;
    }
