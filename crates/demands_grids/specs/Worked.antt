-- Document 01, "Numbers worked out": one table of rows, each a message, what is asked of it, and the number and count that must be answered.
-- `GridsRead` says what the bytes of the grids hold.
-- Assumes nothing.
use Rattle.std.specs.Prelude.{ℕ, ◌+◌, ◌≡◌, cond, List, [], ◌∷◌, ◌++◌, map, eqb, ℤ, pos, neg_ℤ, set, Option, Some, None}
use Rattle.arith.specs.Lists.{up_to}
use Rattle.layout.specs.Layout.{blank}
use Rattle.record_grids.specs.Grids.{nodes_row}
use Rattle.message_rows.specs.Message.{refusal, row}
use Rattle.grid_shifts.specs.declared.Answer.TheVariants.{Metres}
use Rattle.grid_shifts.specs.Shift.{units_of, message_shift}
use Rattle.demands_grids.specs.Grids.{AllPresent}

-- ---- messages

-- Grid K: 1023, SIN 7, origin raw 352,800 and 79,200, spacings raw 720, DF190 0, DF191 1, DF198 4,692, height node i raw i, all else 0
unfoldable pub grid_k : List ℕ
grid_k =
    63 ∷ 240 ∷ 116 ∷ 172 ∷ 68 ∷ 0 ∷ 154 ∷ 176 ∷ 22 ∷ 129 ∷ 104 ∷ 0 ∷ 0 ∷ 18 ∷ 84 ∷ 0 ∷ 0 ∷ 0 ∷ 32 ∷ 0 ∷ 0 ∷ 8 ∷ 0 ∷ 0 ∷ 1 ∷ 128 ∷ 0 ∷ 0 ∷ 64 ∷ 0 ∷ 0 ∷ 10 ∷ 0 ∷ 0 ∷ 1 ∷ 128 ∷ 0 ∷ 0 ∷ 56 ∷ 0 ∷ 0 ∷ 8 ∷ 0 ∷ 0 ∷ 1 ∷ 32 ∷ 0 ∷ 0 ∷ 40 ∷ 0 ∷ 0 ∷ 5 ∷ 128 ∷ 0 ∷ 0 ∷ 192 ∷ 0 ∷ 0 ∷ 26 ∷ 0 ∷ 0 ∷ 3 ∷ 128 ∷ 0 ∷ 0 ∷ 120 ∷ 0 ∷ 0 ∷ 16 ∷ 0 ∷ 0 ∷ 0 ∷ 0 ∷ []

-- Grid K "with all nodes negated"
unfoldable pub grid_k_negated : List ℕ
grid_k_negated =
    63 ∷ 240 ∷ 116 ∷ 172 ∷ 68 ∷ 0 ∷ 154 ∷ 176 ∷ 22 ∷ 129 ∷ 104 ∷ 0 ∷ 0 ∷ 18 ∷ 84 ∷ 0 ∷ 0 ∷ 63 ∷ 224 ∷ 0 ∷ 7 ∷ 248 ∷ 0 ∷ 0 ∷ 254 ∷ 128 ∷ 0 ∷ 31 ∷ 192 ∷ 0 ∷ 3 ∷ 246 ∷ 0 ∷ 0 ∷ 126 ∷ 128 ∷ 0 ∷ 15 ∷ 200 ∷ 0 ∷ 1 ∷ 248 ∷ 0 ∷ 0 ∷ 62 ∷ 224 ∷ 0 ∷ 7 ∷ 216 ∷ 0 ∷ 0 ∷ 250 ∷ 128 ∷ 0 ∷ 31 ∷ 64 ∷ 0 ∷ 3 ∷ 230 ∷ 0 ∷ 0 ∷ 124 ∷ 128 ∷ 0 ∷ 15 ∷ 136 ∷ 0 ∷ 1 ∷ 240 ∷ 0 ∷ 0 ∷ 0 ∷ 0 ∷ []

-- Grid K with "node 7 raw -256": it has no value
unfoldable pub grid_k_node7 : List ℕ
grid_k_node7 = set (set grid_k 37 8) 38 0

-- Grid K with a spacing north of 0, with a spacing east of 0, and with both: bytes 8 to 10 hold the spacings
unfoldable pub grid_k_north0 : List ℕ
grid_k_north0 = set (set grid_k 8 0) 9 1

unfoldable pub grid_k_east0 : List ℕ
grid_k_east0 = set (set grid_k 9 128) 10 0

unfoldable pub grid_k_both0 : List ℕ
grid_k_both0 = set (set (set grid_k 8 0) 9 0) 10 0

-- ---- what is asked, and answered

-- to read the message, or the shift of a component at a position, north first
pub data Asked : Type 0 where
  read : Asked
  shift : ℕ → ℤ → ℤ → Asked

pub record Answered : Type 0 where
  pub number : ℕ
  pub count : ℤ

unfoldable pub answer_to : List ℕ → Asked → Answered
answer_to s read = record { number = refusal s; count = pos 0 }
answer_to s (shift c n e) = record { number = (message_shift s c n e).refusal; count = (message_shift s c n e).count }

pub record Worked : Type 0 where
  pub message : List ℕ
  pub asked : Asked
  pub answer : Answered

unfoldable pub table : List Worked
table =
    record { message = grid_k; asked = shift 2 (pos 1764000000) (pos 396000000); answer = record { number = 0; count = pos 469285 } }  -- P1
    ∷ record { message = grid_k; asked = shift 2 (pos 1769400000) (pos 390600000); answer = record { number = 0; count = pos 469210 } }  -- P2
    ∷ record { message = grid_k; asked = shift 2 (pos 1769400001) (pos 390600000); answer = record { number = 14; count = pos 0 } }  -- P3
    ∷ record { message = grid_k; asked = shift 2 (pos 1758600000) (pos 401400000); answer = record { number = 0; count = pos 469360 } }  -- P4
    ∷ record { message = grid_k; asked = shift 2 (pos 1765800000) (pos 394380000); answer = record { number = 0; count = pos 469261 } }  -- P5
    ∷ record { message = grid_k; asked = shift 2 (pos 1765800000) (pos 394379999); answer = record { number = 0; count = pos 469260 } }  -- P6
    ∷ record { message = grid_k_negated; asked = shift 2 (pos 1765800000) (pos 394380000); answer = record { number = 0; count = pos 469139 } }  -- P7
    ∷ record { message = grid_k_node7; asked = shift 2 (pos 1765800000) (pos 394200000); answer = record { number = 0; count = pos 469260 } }  -- P8
    ∷ record { message = grid_k_node7; asked = shift 2 (pos 1765800000) (pos 394200001); answer = record { number = 15; count = pos 0 } }  -- P9
    ∷ record { message = grid_k; asked = shift 0 (pos 1764000000) (pos 396000000); answer = record { number = 10; count = pos 0 } }  -- P10
    ∷ record { message = grid_k; asked = shift 1 (pos 1764000000) (pos 396000000); answer = record { number = 10; count = pos 0 } }  -- P10, east
    ∷ record { message = grid_k_north0; asked = shift 2 (pos 1764000000) (pos 396000000); answer = record { number = 13; count = pos 0 } }  -- P11, north
    ∷ record { message = grid_k_east0; asked = shift 2 (pos 1764000000) (pos 396000000); answer = record { number = 13; count = pos 0 } }  -- P11, east
    ∷ record { message = grid_k_both0; asked = shift 2 (pos 1764000000) (pos 396000000); answer = record { number = 13; count = pos 0 } }  -- P11, both
    ∷ record { message = 63 ∷ 208 ∷ blank 50; asked = read; answer = record { number = 0; count = pos 0 } }  -- P12
    ∷ record { message = 63 ∷ 208 ∷ blank 51; asked = read; answer = record { number = 3; count = pos 0 } }  -- P12, with a 53rd byte
    ∷ []

-- what is answered to each row, and what must be
unfoldable pub given : List Worked → List Answered
given [] = []
given (w ∷ ws) = answer_to w.message w.asked ∷ given ws

unfoldable pub wanted : List Worked → List Answered
wanted [] = []
wanted (w ∷ ws) = w.answer ∷ wanted ws

abbrev pub WorkedNumbers : Type 0
WorkedNumbers = given table ≡ wanted table

-- P1 for the add-on: "46.9285 m"
abbrev pub WorkedMetres : Type 0
WorkedMetres = (message_shift grid_k 2 (pos 1764000000) (pos 396000000)).answer ≡ Metres (units_of 10000 (pos 469285))

-- the row of a grid like Grid K: its raw spacings, and what its height nodes 1 to 16 say
abbrev pub row_k : ℤ → ℤ → (ℕ → Option ℤ) → List (Option ℤ)
row_k rows columns node =
    map Some (pos 1023 ∷ pos 7 ∷ pos 0 ∷ pos 1 ∷ pos 352800 ∷ pos 79200 ∷ rows ∷ columns ∷ pos 0 ∷ pos 0 ∷ pos 4692 ∷ [])
    ++ nodes_row (up_to (λ i. record { north = Some (pos 0); east = Some (pos 0); height = node (i + 1) }) 16)
    ++ map Some (pos 0 ∷ pos 0 ∷ pos 0 ∷ pos 0 ∷ pos 0 ∷ [])

-- the bytes read as document 01 gives Grid K and the grids made from it
pub record GridsRead : Type 0 where
  pub grid : row grid_k ≡ row_k (pos 720) (pos 720) (λ i. Some (pos i))
  pub negated : row grid_k_negated ≡ row_k (pos 720) (pos 720) (λ i. Some (neg_ℤ (pos i)))
  pub node7 : row grid_k_node7 ≡ row_k (pos 720) (pos 720) (λ i. cond (eqb i 7) None (Some (pos i)))
  pub north0 : row grid_k_north0 ≡ row_k (pos 0) (pos 720) (λ i. Some (pos i))
  pub east0 : row grid_k_east0 ≡ row_k (pos 720) (pos 0) (λ i. Some (pos i))
  pub both0 : row grid_k_both0 ≡ row_k (pos 0) (pos 0) (λ i. Some (pos i))

-- Grid K's heights have all sixteen nodes present, as demand 3 asks
abbrev pub GridKPresent : Type 0
GridKPresent = AllPresent grid_k 2
