-- A tally and one point more: request A10, whose words are quoted.
-- Assumes nothing.
use Rattle.std.specs.Prelude.{ℕ, ◌+◌, ◌-◌, Bool, cond, ◌||◌, eqb, ℤ, pos, ◌+ℤ◌, get_or, set}
use Rattle.report_update.specs.Numbers.{below, above}
use Rattle.report_update.specs.declared.Tally.{Tally}

-- "with answered 0, smallest, greatest and places are zero, in a lent tally read as zero"
unfoldable pub as_read : Tally → Tally
as_read t =
    cond (eqb t.answered 0)
    (record { answered = 0; refused = t.refused; smallest = pos 0; greatest = pos 0; smallest_place = 0; greatest_place = 0; sum = t.sum })
    t

-- one point more is refused under the number n
unfoldable pub with_refused : Tally → ℕ → Tally
with_refused t n =
    record {
      answered = t.answered;
      refused = set t.refused (n - 1) (get_or t.refused (n - 1) 0 + 1);
      smallest = t.smallest;
      greatest = t.greatest;
      smallest_place = t.smallest_place;
      greatest_place = t.greatest_place;
      sum = t.sum;
    }

-- a count is new as the smallest or the greatest: the first, or before the old one in the order
abbrev pub is_new : (ℤ → ℤ → Bool) → Tally → ℤ → ℤ → Bool
is_new before t z old = eqb t.answered 0 || before z old

-- the k-th point is answered with the count z
unfoldable pub with_answered : Tally → ℤ → ℕ → Tally
with_answered t z k =
    record {
      answered = t.answered + 1;
      refused = t.refused;
      smallest = cond (is_new below t z t.smallest) z t.smallest;
      greatest = cond (is_new above t z t.greatest) z t.greatest;
      smallest_place = cond (is_new below t z t.smallest) k t.smallest_place;
      greatest_place = cond (is_new above t z t.greatest) k t.greatest_place;
      sum = t.sum +ℤ z;
    }

-- one point more, the k-th
unfoldable pub with_outcome : Tally → ℕ → ℤ → ℕ → Tally
with_outcome t refusal count k = cond (eqb refusal 0) (with_answered t count k) (with_refused (as_read t) refusal)
