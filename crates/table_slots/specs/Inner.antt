-- What only promises between crates name.
-- Assumes nothing.
use Rattle.std.specs.Prelude.{ℕ, List, cond, Bool, not, ◌||◌, length, replicate, get_or, eqb, ltb, Option, Some, None}
use Rattle.arith.specs.Lists.{up_to}
use Rattle.table_slots.specs.Slots.{slots, table_size, slot, well_slot, tag, most}
use Rattle.arith.specs.Places.{first_of}

-- a number that is no tag: the greatest tag is 2304, of owner 2, SIN 255 and group 2
abbrev pub no_tag : ℕ
no_tag = 2305

-- a slot's tag where the slot is well formed
unfoldable pub mark : List ℕ → ℕ
mark s = cond (well_slot s) (tag s) no_tag

unfoldable pub mark_at : List ℕ → ℕ → ℕ
mark_at t i = mark (slot t i)

-- the marks of a table's slots; a table of another size has no tags
unfoldable pub marks : List ℕ → List ℕ
marks t = cond (eqb (length t) table_size) (up_to (mark_at t) slots) (replicate slots no_tag)

unfoldable pub has_mark : List ℕ → ℕ → ℕ → Bool
has_mark row g i = eqb (get_or row i 0) g

-- the first of the places 0 to n - 1 of a row with the mark g, n where there is none
unfoldable pub mark_place : List ℕ → ℕ → ℕ → ℕ
mark_place row g n = first_of (has_mark row g) 0 n

-- a place of a row, none for the number behind the last
unfoldable pub place_in : ℕ → Option ℕ
place_in p = cond (ltb p slots) (Some p) None

-- place i of a row has no tag, or a key that stands before it
unfoldable pub flawed_mark : List ℕ → ℕ → Bool
flawed_mark row i = eqb (get_or row i 0) no_tag || not (eqb (get_or row i 0) 0 || eqb (mark_place row (get_or row i 0) i) i)

unfoldable pub sound_marks : List ℕ → Bool
sound_marks row = eqb (first_of (flawed_mark row) 0 slots) slots

-- the place of the mark g, else the first place of a free slot where the caller holds fewer than 20, else 32
unfoldable pub mark_or_free : List ℕ → ℕ → ℕ → ℕ
mark_or_free row g n = cond (ltb (mark_place row g slots) slots) (mark_place row g slots) (cond (ltb n most) (mark_place row 0 slots) slots)
