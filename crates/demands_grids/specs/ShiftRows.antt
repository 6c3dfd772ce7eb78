-- Request A6, rows of shifts, in its words: statements about message bytes, the buffer and the parts of A3's call.
-- Assumes nothing.
use Rattle.std.specs.Prelude.{ℕ, ◌≤◌, ◌<◌, ◌≡◌, false, List, ℤ, pos, neg_ℤ, ◌+ℤ◌, ◌*ℤ◌, length, ◌≤ℤ◌}
use Rattle.arith.specs.Lists.{at}
use Rattle.record_rows.specs.Numbers.{says}
use Rattle.record_grids.specs.Grids.{grid_of}
use Rattle.message_rows.specs.Message.{number_of, row, kind_refusal}
use Rattle.grid_refusals.specs.Refusals.{beyond}
use Rattle.grid_shifts.specs.Shift.{message_shift}
use Rattle.grid_shifts.specs.declared.Shift.{Shift}
use Rattle.grid_row_refusals.specs.ShiftRow.{shift_row_refusal, shift_row_filled}

-- a component's part of A3's call at place k of a row "from a start position", "at equal steps east"
abbrev pub part_at : List ℕ → ℕ → (n e step : ℤ) → ℕ → Shift
part_at s c n e step k = message_shift s c n (e +ℤ pos k *ℤ step)

-- "It must equal that component's part of A3's call at every place", "lent places behind it keep their numbers"
pub record Equals (s : List ℕ) (c : ℕ) (n e step : ℤ) (count : ℕ) (buffer after : List ℤ) : Type 0 where
  pub answered : (k : ℕ) → k < count → (part_at s c n e step k).refusal ≡ 0
  pub counts : (k : ℕ) → k < count → at after k ≡ (part_at s c n e step k).count
  pub behind : (k : ℕ) → count ≤ k → at after k ≡ at buffer k
  pub places : length after ≡ length buffer

abbrev pub RowEqualsCalls : Type 0
RowEqualsCalls =
    (s : List ℕ) (c : ℕ) (n e step : ℤ) (count : ℕ) (buffer : List ℤ) → shift_row_refusal s c n e step count (length buffer) ≡ 0
    → Equals s c n e step count buffer (shift_row_filled s c n e step count buffer)

-- with a refusal, every place keeps its number
abbrev pub RowRefusedKeeps : Type 0
RowRefusedKeeps =
    (s : List ℕ) (c : ℕ) (n e step : ℤ) (count : ℕ) (buffer : List ℤ) → (shift_row_refusal s c n e step count (length buffer) ≡ 0 → ⊥)
    → shift_row_filled s c n e step count buffer ≡ buffer

-- "The row has 1 to 4,096 places and a step of 0 or more", and no "place past document 01's limits"
pub record Placed (s : List ℕ) (n e step : ℤ) (count : ℕ) : Type 0 where
  pub some : 0 < count
  pub most : count ≤ 4096
  pub up : pos 0 ≤ℤ step
  pub near : (k : ℕ) → k < count → beyond (grid_of (says (row s))).number n (e +ℤ pos k *ℤ step) ≡ false

-- "Refusals: 1 to 5, KIND, COMPONENT; POSITION ..; then 10 to 15, that of the first place refused; then ROOM"
pub record RowNumber (s : List ℕ) (c : ℕ) (n e step : ℤ) (count room : ℕ) (r : ℕ) : Type 0 where
  pub kind : (kind_refusal 1023 1024 s ≡ 0 → ⊥) → r ≡ kind_refusal 1023 1024 s
  pub component : kind_refusal 1023 1024 s ≡ 0 → 2 < c → r ≡ 8
  pub position : kind_refusal 1023 1024 s ≡ 0 → c ≤ 2 → (Placed s n e step count → ⊥) → r ≡ 9
  pub place : kind_refusal 1023 1024 s ≡ 0 → c ≤ 2 → Placed s n e step count → (k : ℕ) → k < count
      → ((j : ℕ) → j < k → (part_at s c n e step j).refusal ≡ 0) → ((part_at s c n e step k).refusal ≡ 0 → ⊥)
      → (r ≡ (part_at s c n e step k).refusal) × (10 ≤ r) × (r ≤ 15)
  pub short : kind_refusal 1023 1024 s ≡ 0 → c ≤ 2 → Placed s n e step count → ((k : ℕ) → k < count → (part_at s c n e step k).refusal ≡ 0) → room < count → r ≡ 6
  pub done : kind_refusal 1023 1024 s ≡ 0 → c ≤ 2 → Placed s n e step count → ((k : ℕ) → k < count → (part_at s c n e step k).refusal ≡ 0) → count ≤ room → r ≡ 0

abbrev pub RowNumbers : Type 0
RowNumbers = (s : List ℕ) (c : ℕ) (n e step : ℤ) (count room : ℕ) → RowNumber s c n e step count room (shift_row_refusal s c n e step count room)

-- a step of a whole turn from -180 to +180 degrees gives the same count twice
abbrev pub WholeTurn : Type 0
WholeTurn =
    (s : List ℕ) (c : ℕ) (n : ℤ) (buffer : List ℤ) → (number_of s ≡ 1024 → ⊥)
    → shift_row_refusal s c n (neg_ℤ (pos 6480000000)) (pos 12960000000) 2 (length buffer) ≡ 0
    → at (shift_row_filled s c n (neg_ℤ (pos 6480000000)) (pos 12960000000) 2 buffer) 0 ≡ at (shift_row_filled s c n (neg_ℤ (pos 6480000000)) (pos 12960000000) 2 buffer) 1
