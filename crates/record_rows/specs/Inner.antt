-- What only promises between crates name.
-- Assumes nothing.
use Rattle.std.specs.Prelude.{ℕ, ◌+◌, ◌-◌, Bool, cond, List, ◌++◌, leb, length, replicate, ℤ, Option, Some, None}
use Rattle.std.proofs.Math.Seq.{paste}
use Rattle.arith.specs.Inner.{padded}
use Rattle.record_rows.specs.Numbers.{values_of, present_of}
use Rattle.record_rows.specs.declared.Row.{Row}

-- ---- the answer of a record's row in both buffers: none of a bad name

-- presence bytes, and ones up to 96 places: no message has more
unfoldable pub present_padded : List ℕ → List ℕ
present_padded b = b ++ replicate (96 - length b) 1

-- values and presence bytes as the answer: none where they are not good
unfoldable pub buffers : Bool → List ℤ → List ℕ → Option Row
buffers good z b =
    cond good (Some (record { count = length z; values = padded z; present = present_padded b })) None

abbrev pub numbers : Bool → List (Option ℤ) → Option Row
numbers good v = buffers good (values_of v) (present_of v)

-- ---- the list s into the list d from place k on: the list then, as it was where there is no room, and the place behind s

unfoldable pub appended : {A : Type 0} → List A → ℕ → List A → List A
appended d k s = cond (leb (k + length s) (length d)) (paste d k s (length s)) d

unfoldable pub place_behind : {A : Type 0} → List A → ℕ → List A → ℕ
place_behind d k s = cond (leb (k + length s) (length d)) (k + length s) k
