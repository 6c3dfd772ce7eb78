-- Reading a message as a row and writing a row as a message: refusals 1 to 7 (document 01, "Refusal numbers").
-- Assumes nothing.
use Rattle.std.specs.Prelude.{ℕ, ◌+◌, ◌*◌, Bool, not, cond, ◌&&◌, ◌||◌, List, [], ◌∷◌, ◌++◌, eqb, leb, ltb, length, ℤ, Option}
use Rattle.arith.specs.First.{Test, first}
use Rattle.arith.specs.Whole.{natural}
use Rattle.field.specs.Field.{field}
use Rattle.record_rows.specs.Numbers.{says, number_at, counter_at, values_of, present_of}
use Rattle.layout.specs.Layout.{row_of, row_takes, decode_all, encode_all, read_tests, room_tests, encode_tests, answered, stored}
use Rattle.layout.specs.declared.Written.{Written}
use Rattle.layout_tables.specs.Layouts.{known, named, layout_of}
use Rattle.message_rows.specs.declared.Header.{Header}

-- ---- what the bytes of a message call for

-- DF002
abbrev pub number_of : List ℕ → ℕ
number_of s = field s 0 12

-- DF143, and DF145 behind the first name
abbrev pub source_count : List ℕ → ℕ
source_count s = field s 12 5

abbrev pub target_count : List ℕ → ℕ
target_count s = field s (17 + 8 * source_count s) 5

-- "a name counter can't be read"
abbrev pub counter_cut : List ℕ → Bool
counter_cut s = named (number_of s) && (ltb (length s) 3 || ltb (length s) (source_count s + 3))

unfoldable pub layout : List ℕ → List ℕ
layout s = layout_of (number_of s) (source_count s) (target_count s)

-- ---- reading

-- 1 SHORT, 2 NUMBER, 3 LENGTH
abbrev pub head_tests : List ℕ → List Test
head_tests s = (1, ltb (length s) 2) ∷ (2, not (known (number_of s))) ∷ (3, counter_cut s) ∷ []

-- then by the layout 3 LENGTH, 4 FILL, 5 RANGE
abbrev pub tests : List ℕ → List Test
tests s = head_tests s ++ read_tests (layout s) s

unfoldable pub refusal : List ℕ → ℕ
refusal s = first (tests s)

-- the row of an accepted message: what each field says, in wire order; none with a refusal
unfoldable pub row : List ℕ → List (Option ℤ)
row s = cond (eqb (refusal s) 0) (decode_all (layout s) 0 s) []

-- DF147 stands behind DF002, in 1021 and 1022 behind both names
abbrev pub sin_bit : List ℕ → ℕ
sin_bit s = cond (named (number_of s)) (22 + 8 * (source_count s + target_count s)) 12

abbrev pub sin_of : List ℕ → ℕ
sin_of s = field s (sin_bit s) 8

-- with a refusal all else is zero
unfoldable pub header : List ℕ → Header
header s =
    record {
      refusal = refusal s;
      number = cond (eqb (refusal s) 0) (number_of s) 0;
      sin = cond (eqb (refusal s) 0) (sin_of s) 0;
      length = cond (eqb (refusal s) 0) (length s) 0;
    }

-- into buffers of m values and n presence bytes: then 6 ROOM
unfoldable pub row_refusal : List ℕ → ℕ → ℕ → ℕ
row_refusal s m n = first (tests s ++ room_tests (layout s) m n)

-- the caller's buffers after a call that answered r: the row in their first places, or as they were
abbrev pub values_read : ℕ → List ℕ → List ℤ → List ℤ
values_read r s z = stored r (values_of (row s)) z

abbrev pub present_read : ℕ → List ℕ → List ℕ → List ℕ
present_read r s b = stored r (present_of (row s)) b

-- ---- reading one kind of record, whose numbers are lo to hi: then 7 KIND, and into buffers 6 ROOM

abbrev pub kind_tests : ℕ → ℕ → List ℕ → List Test
kind_tests lo hi s = tests s ++ ((7, not (leb lo (number_of s) && leb (number_of s) hi)) ∷ [])

unfoldable pub kind_refusal : ℕ → ℕ → List ℕ → ℕ
kind_refusal lo hi s = first (kind_tests lo hi s)

unfoldable pub kind_row : ℕ → ℕ → List ℕ → List (Option ℤ)
kind_row lo hi s = cond (eqb (kind_refusal lo hi s) 0) (row s) []

-- ---- writing: z and b are the values and the presence bytes of a row

unfoldable pub row_layout : List (Option ℤ) → List ℕ
row_layout v =
    layout_of (natural (number_at (says v) 0)) (counter_at (says v) 1) (counter_at (says v) (2 + counter_at (says v) 1))

-- 5 RANGE: not the row of a message; 6 ROOM
abbrev pub row_tests : List ℤ → List ℕ → ℕ → List Test
row_tests z b n =
    (5, not (known (natural (number_at (says (row_of z b)) 0)))) ∷ encode_tests (row_layout (row_of z b)) z b n

unfoldable pub write_refusal : List ℤ → List ℕ → ℕ → ℕ
write_refusal z b n = first (row_tests z b n)

unfoldable pub message : List (Option ℤ) → List ℕ
message v = encode_all (row_layout v) v

-- what a writer answers, and the output afterwards
pub record Outcome : Type 0 where
  pub answer : Written
  pub output : List ℕ

-- a message written to an output, or not, by a refusal number
abbrev pub outcome_of : ℕ → List ℕ → List ℕ → Outcome
outcome_of n m out = record { answer = answered n m; output = stored n m out }

abbrev pub write_row : List ℤ → List ℕ → List ℕ → Outcome
write_row z b out = outcome_of (write_refusal z b (length out)) (message (row_of z b)) out

-- ---- writing the row of a record whose kind has the message numbers lo to hi; good: its names are

-- the number is one of the kind
abbrev pub of_kind : ℕ → ℕ → List (Option ℤ) → Bool
of_kind lo hi v = leb lo (natural (number_at (says v) 0)) && leb (natural (number_at (says v) 0)) hi

-- 5 RANGE: "a field outside its range or width, a number not of the record's kind, or a bad name"; 6 ROOM
unfoldable pub kind_write_refusal : ℕ → ℕ → Bool → List ℤ → List ℕ → ℕ → ℕ
kind_write_refusal lo hi good z b n = first ((5, not good) ∷ (5, not (of_kind lo hi (row_of z b))) ∷ row_tests z b n)

abbrev pub write_kind : ℕ → ℕ → Bool → List ℤ → List ℕ → List ℕ → Outcome
write_kind lo hi good z b out = outcome_of (kind_write_refusal lo hi good z b (length out)) (message (row_of z b)) out

-- ---- the row of a record that a message of its kind holds: its number is of the kind, and each field takes its own

unfoldable pub row_held : ℕ → ℕ → List ℤ → List ℕ → Bool
row_held lo hi z b = of_kind lo hi (row_of z b) && row_takes (row_layout (row_of z b)) z b
