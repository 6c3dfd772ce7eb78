-- A row of shifts at equal steps east: request A6 of the change requests, whose words are quoted.
-- Assumes nothing.
use Rattle.std.specs.Prelude.{ℕ, Bool, not, cond, ◌||◌, List, [], ◌∷◌, ◌++◌, eqb, ltb, ℤ, pos, ◌+ℤ◌, ◌*ℤ◌, length, drop}
use Rattle.std.specs.Int.Signed.{lt_z}
use Rattle.arith.specs.First.{Test, first}
use Rattle.arith.specs.Lists.{up_to, all_below}
use Rattle.record_rows.specs.Numbers.{says}
use Rattle.record_grids.specs.Grids.{grid_of}
use Rattle.message_rows.specs.Message.{row, kind_tests}
use Rattle.grid_refusals.specs.Refusals.{beyond}
use Rattle.grid_shifts.specs.Shift.{message_shift}
use Rattle.grid_shifts.specs.declared.Shift.{Shift}

-- the position east-west of place k of a row that starts at e, "at equal steps east"
abbrev pub east_at : ℤ → ℤ → ℕ → ℤ
east_at e step k = e +ℤ pos k *ℤ step

-- "any place past document 01's limits"
unfoldable pub any_beyond : ℤ → (n e step : ℤ) → ℕ → Bool
any_beyond number n e step count = not (all_below (λ k. not (beyond number n (east_at e step k))) count)

-- "POSITION for a bad row length, a negative step, or any place past document 01's limits": "The row has 1 to 4,096 places and a step of 0 or more"
unfoldable pub misplaced : ℤ → (n e step : ℤ) → ℕ → Bool
misplaced number n e step count =
    eqb count 0 || ltb 4096 count || lt_z step (pos 0) || any_beyond number n e step count

-- a place refused, by that component's part of A3's call
abbrev pub refused_test : Shift → Test
refused_test p = (p.refusal, not (eqb p.refusal 0))

-- "Refusals: 1 to 5, KIND, COMPONENT; POSITION ..; then 10 to 15, that of the first place refused; then ROOM, if the row lent is too short"
unfoldable pub shift_row_refusal : List ℕ → ℕ → (n e step : ℤ) → (count room : ℕ) → ℕ
shift_row_refusal s c n e step count room =
    first (kind_tests 1023 1024 s
    ++ (8, ltb 2 c)
    ∷ (9, misplaced (grid_of (says (row s))).number n e step count)
    ∷ up_to (λ k. refused_test (message_shift s c n (east_at e step k))) count
    ++ (6, ltb room count)
    ∷ [])

-- the buffer after the call: the counts of that component's part of A3's call, "lent places behind it keep their numbers"; with a refusal all of them
unfoldable pub shift_row_filled : List ℕ → ℕ → (n e step : ℤ) → ℕ → List ℤ → List ℤ
shift_row_filled s c n e step count buffer =
    cond (eqb (shift_row_refusal s c n e step count (length buffer)) 0)
    (up_to (λ k. (message_shift s c n (east_at e step k)).count) count ++ drop count buffer)
    buffer
