-- What the records of all messages share: v k is what place k of a message's row says, DF002 standing at place 0.
-- Assumes nothing.
use Rattle.std.specs.Prelude.{ℕ, ◌+◌, cond, List, [], ◌∷◌, map, leb, get_or, ℤ, pos, Option, Some}
use Rattle.arith.specs.Whole.{natural}
use Rattle.layout.specs.Layout.{value_in, present_in}
use Rattle.record_rows.specs.declared.Pair.{Pair}

-- ---- a row, and its two buffers

-- what place k of a row says: the value 0 behind its end
abbrev pub says : List (Option ℤ) → ℕ → Option ℤ
says v k = get_or v k (Some (pos 0))

-- the values and the presence bytes of a row
abbrev pub values_of : List (Option ℤ) → List ℤ
values_of v = map value_in v

abbrev pub present_of : List (Option ℤ) → List ℕ
present_of v = map present_in v

-- ---- unsigned fields

-- the number of an unsigned field at place k: its value
abbrev pub number_at : (ℕ → Option ℤ) → ℕ → ℤ
number_at v k = value_in (v k)

-- a name counter at place k, 0 where no counter has that value
abbrev pub counter_at : (ℕ → Option ℤ) → ℕ → ℕ
counter_at v k = cond (leb (natural (number_at v k)) 31) (natural (number_at v k)) 0

-- a pair of indicators: from place k on, and as a row
unfoldable pub pair_at : (ℕ → Option ℤ) → ℕ → Pair
pair_at v k = record { horizontal = number_at v k; vertical = number_at v (k + 1) }

unfoldable pub pair_row : Pair → List (Option ℤ)
pair_row r = Some r.horizontal ∷ Some r.vertical ∷ []
