-- What only promises between crates name.
-- Assumes nothing.
use Rattle.std.specs.Prelude.{ℕ, ◌+◌, ◌-◌, Bool, cond, ◌&&◌, eqb, leb, ltb, ℤ, nat_abs, get_or}
use Rattle.report_update.specs.declared.Tally.{Tally}
use Rattle.report_update.specs.Update.{as_read, with_refused, with_answered}

-- ---- the same of any tally and any numbers: it is as it was where a number would be past its limit

-- fewer than 10,000 points answered, "a sum" within "±10^11", and a count of at most 10^7, past which no grid message has one
abbrev pub countable : Tally → ℤ → Bool
countable t z = ltb t.answered 10000 && leb (nat_abs t.sum) 100000000000 && leb (nat_abs z) 10000000

-- a number to 15 under which fewer than 10,000 points are refused
abbrev pub refusable : Tally → ℕ → Bool
refusable t n = leb n 15 && ltb (get_or t.refused (n - 1) 0) 10000

-- one point more behind so many points
unfoldable pub grown_by : Tally → ℕ → ℤ → ℕ → Tally
grown_by t refusal count before =
    cond (ltb before 10000)
    (cond (eqb refusal 0)
    (cond (countable t count) (with_answered t count (before + 1)) t)
    (cond (refusable t refusal) (with_refused (as_read t) refusal) t))
    t
