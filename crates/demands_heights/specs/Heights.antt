-- What holds of a height grid, in the words of request A11 of document 02. z and b are the values and the presence bytes of a row of a 1023's fields.
-- Assumes nothing.
use Rattle.std.specs.Prelude.{◌≡◌, true, false, List, ℕ, ◌+◌, ◌*◌, ◌≤◌, ◌<◌, ℤ, pos, nat_abs, ◌+ℤ◌, ◌-ℤ◌, ◌*ℤ◌, length, get_or, ◌<ℤ◌}
use Rattle.arith.specs.First.{first}
use Rattle.arith.specs.Lists.{at}
use Rattle.arith.specs.Whole.{natural}
use Rattle.layout.specs.Layout.{place_takes}
use Rattle.layout_tables.specs.Layouts.{layout1023}
use Rattle.heights_mean.specs.Means.{fits, smallest_mean}
use Rattle.std.specs.Prelude.{Some}
use Rattle.heights.specs.Heights.{of_height, record_tests, heights_refusal, heights_message, write_heights}
use Rattle.grid_refusals.specs.Refusals.{beyond}
use Rattle.grid_place.specs.Position.{turn}
use Rattle.grid_shifts.specs.declared.ThreeShifts.{ThreeShifts}
use Rattle.grid_shifts.specs.Shift.{units_of, message_shifts}

-- ---- the mean

-- "if no such mean exists": none "from -16,383 to 16,383"
abbrev pub NoneFits : List ℤ → Type 0
NoneFits wanted = (k : ℤ) → nat_abs k ≤ 16383 → fits wanted k ≡ false

-- the mean chosen is of the range and fits, and no smaller one of the range does
pub record Smallest (wanted : List ℤ) (m : ℤ) : Type 0 where
  pub range : nat_abs m ≤ 16383
  pub fitting : fits wanted m ≡ true
  pub least : (k : ℤ) → nat_abs k ≤ 16383 → k <ℤ m → fits wanted k ≡ false

abbrev pub ChoosesSmallest : Type 0
ChoosesSmallest = (wanted : List ℤ) (m : ℤ) → smallest_mean wanted ≡ Some m → Smallest wanted m

-- ---- refusals

-- 64 values, 64 presence bytes and 16 heights
pub record Counted (z : List ℤ) (b : List ℕ) (wanted : List ℤ) : Type 0 where
  pub values : length z ≡ 64
  pub present : length b ≡ 64
  pub heights : length wanted ≡ 16

-- "23 NOMEAN exactly if no such mean exists", where the counts are right and the record passes
pub record Exactly (z : List ℤ) (b : List ℕ) (wanted : List ℤ) (n : ℕ) : Type 0 where
  pub only : heights_refusal z b wanted n ≡ 23 → Counted z b wanted × (first (record_tests z b) ≡ 0) × NoneFits wanted
  pub always : Counted z b wanted → first (record_tests z b) ≡ 0 → NoneFits wanted → heights_refusal z b wanted n ≡ 23

abbrev pub NoMeanExactly : Type 0
NoMeanExactly = (z : List ℤ) (b : List ℕ) (wanted : List ℤ) (n : ℕ) → Exactly z b wanted n

-- "then RANGE for the other fields": it is not given where the counts are right, the number is 1023 and each other field takes its own
abbrev pub OthersTaken : List ℤ → List ℕ → Type 0
OthersTaken z b = (k : ℕ) → k < 64 → of_height k ≡ false → place_takes (get_or layout1023 k 0) (at z k) (get_or b k 0) ≡ true

abbrev pub OnlyOthers : Type 0
OnlyOthers =
    (z : List ℤ) (b : List ℕ) (wanted : List ℤ) (n : ℕ) → Counted z b wanted → at z 0 ≡ pos 1023 → OthersTaken z b
    → heights_refusal z b wanted n ≡ 5 → ⊥

-- the row's own height fields are not looked at: rows that are the same elsewhere give the same answer and output
pub record SameOthers (z y : List ℤ) (b a : List ℕ) : Type 0 where
  pub values : length z ≡ length y
  pub present : length b ≡ length a
  pub value : (k : ℕ) → of_height k ≡ false → at z k ≡ at y k
  pub byte : (k : ℕ) → of_height k ≡ false → get_or b k 0 ≡ get_or a k 0

abbrev pub NotLookedAt : Type 0
NotLookedAt =
    (z y : List ℤ) (b a : List ℕ) (wanted : List ℤ) (out : List ℕ) → SameOthers z y b a
    → ((write_heights z b wanted out).answer ≡ (write_heights y a wanted out).answer) × ((write_heights z b wanted out).output ≡ (write_heights y a wanted out).output)

-- ---- "At each node that the rover may ask for, the shift is the wanted height exactly"

-- h half spacings from the origin, in steps, north or east by the origin's place k: "Rows and columns stand at the origin plus and minus a half and
-- three halves of the spacing". DF192 to DF195 are 5,000 steps for a raw number, and half of a spacing 2,500
abbrev pub steps_at : List ℤ → ℕ → ℤ → ℤ
steps_at z k h = pos 5000 *ℤ at z k +ℤ h *ℤ pos (2500 * natural (at z (k + 2)))

-- the height of the three shifts is `height` millimetres: 0, ten counts for each, and as a float the millimetres, made an f64, divided once by 1,000
pub record Gives (s : ThreeShifts) (height : ℤ) : Type 0 where
  pub refusal : s.parts.height.refusal ≡ 0
  pub count : s.parts.height.count ≡ pos 10 *ℤ height
  pub metres : s.height ≡ units_of 1000 height

-- of the message written, for the node in row i from the north and column j from the west, at every position within ±3,240,000,000 and ±6,480,000,000 that is its own up to whole turns
abbrev pub GivesWanted : Type 0
GivesWanted =
    (z : List ℤ) (b : List ℕ) (wanted : List ℤ) (n : ℕ) → heights_refusal z b wanted n ≡ 0 → (i j : ℕ) → i ≤ 3 → j ≤ 3 → (turns north east : ℤ)
    → north ≡ steps_at z 4 (pos 3 -ℤ pos (2 * i)) → east ≡ steps_at z 5 (pos (2 * j) -ℤ pos 3) +ℤ turns *ℤ pos turn → beyond (pos 1023) north east ≡ false
    → Gives (message_shifts (heights_message z b wanted) north east) (at wanted (4 * i + j))
