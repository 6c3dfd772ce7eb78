-- Making a height grid: request A11 of document 02, whose words are quoted. z and b are the values and the presence bytes of a row of a 1023's fields,
-- DF002 at place 0: DF191 at 3, DF192 and DF193 at 4 and 5, DF194 and DF195 at 6 and 7, DF198 at 10, the DF201 of node i, 1 to 16, at 10 + 3 i, DF213 at 60.
-- Assumes nothing.
use Rattle.std.specs.Prelude.{ℕ, ◌-◌, ◌/◌, ◌%◌, Bool, true, not, cond, ◌&&◌, ◌||◌, Option, Some, None, List, [], ◌∷◌, ◌++◌, eqb, leb, ℤ, pos, length, get_or}
use Rattle.arith.specs.First.{Test, first}
use Rattle.arith.specs.Lists.{at, up_to}
use Rattle.arith.specs.Whole.{same_z}
use Rattle.layout.specs.Layout.{row_of}
use Rattle.message_rows.specs.Message.{row_tests, of_kind, message, Outcome, outcome_of}
use Rattle.heights_mean.specs.Means.{less, smallest_mean}

-- ---- the row with a mean and the wanted heights

-- place k is that of DF198 or of a DF201
abbrev pub of_height : ℕ → Bool
of_height k = leb 10 k && leb k 58 && eqb (k % 3) 1

-- "set the nodes": the mean at DF198, a height less the mean at a DF201; the other fields stay
unfoldable pub value_with : List ℤ → List ℤ → ℤ → ℕ → ℤ
value_with z wanted m k = cond (of_height k) (cond (eqb k 10) m (less (at wanted ((k - 13) / 3)) m)) (at z k)

unfoldable pub present_with : List ℕ → ℕ → ℕ
present_with b k = cond (of_height k) 1 (get_or b k 0)

unfoldable pub height_values : List ℤ → List ℤ → ℤ → List ℤ
height_values z wanted m = up_to (value_with z wanted m) 64

unfoldable pub height_present : List ℕ → List ℕ
height_present b = up_to (present_with b) 64

-- ---- refusals

-- RANGE for counts other than 64, 64 and 16, before all else: no record can be read from them
abbrev pub count_tests : List ℤ → List ℕ → List ℤ → List Test
count_tests z b wanted =
    (5, not (eqb (length z) 64)) ∷ (5, not (eqb (length b) 64)) ∷ (5, not (eqb (length wanted) 16)) ∷ []

-- what place k says: the value 0, none (a 0 that is no value), or another value. A presence byte above 1, or a value beside a 0, says nothing and is out of RANGE
unfoldable pub zero_beside : ℕ → List ℤ → List ℕ → ℕ → Bool
zero_beside mark z b k = eqb (get_or b k 0) mark && same_z (at z k) (pos 0)

abbrev pub says_zero : List ℤ → List ℕ → ℕ → Bool
says_zero = zero_beside 1

abbrev pub says_none : List ℤ → List ℕ → ℕ → Bool
says_none = zero_beside 0

unfoldable pub says_other : List ℤ → List ℕ → ℕ → Bool
says_other z b k = eqb (get_or b k 0) 1 && not (same_z (at z k) (pos 0))

-- "OFF, METHOD, ORIGIN, SPACING from the record first", each given when document 01 says: 10, 11, 12, 13
abbrev pub record_tests : List ℤ → List ℕ → List Test
record_tests z b =
    (10, says_zero z b 3)
    ∷ (11, says_other z b 60)
    ∷ (12, says_none z b 4 || says_none z b 5)
    ∷ (13, says_zero z b 6 || says_zero z b 7)
    ∷ []

-- "23 NOMEAN exactly if no such mean exists; then RANGE for the other fields, then ROOM", in n bytes: 5, a number other than 1023 included, and 6
abbrev pub mean_tests : List ℤ → List ℕ → List ℤ → ℕ → Option ℤ → List Test
mean_tests z b wanted n (Some m) =
    (5, not (of_kind 1023 1023 (row_of (height_values z wanted m) (height_present b)))) ∷ row_tests (height_values z wanted m) (height_present b) n
mean_tests z b wanted n None = (23, true) ∷ []

unfoldable pub heights_refusal : List ℤ → List ℕ → List ℤ → ℕ → ℕ
heights_refusal z b wanted n = first ((count_tests z b wanted ++ record_tests z b) ++ mean_tests z b wanted n (smallest_mean wanted))

-- ---- the message

abbrev pub message_with : List ℤ → List ℕ → List ℤ → Option ℤ → List ℕ
message_with z b wanted (Some m) = message (row_of (height_values z wanted m) (height_present b))
message_with z b wanted None = []

unfoldable pub heights_message : List ℤ → List ℕ → List ℤ → List ℕ
heights_message z b wanted = message_with z b wanted (smallest_mean wanted)

-- what is answered, and the output afterwards
abbrev pub write_heights : List ℤ → List ℕ → List ℤ → List ℕ → Outcome
write_heights z b wanted out = outcome_of (heights_refusal z b wanted (length out)) (heights_message z b wanted) out
