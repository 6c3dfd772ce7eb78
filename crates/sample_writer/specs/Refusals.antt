-- Why no samples are made of a message and points: request A13, the writer's refusals but ROOM.
-- Assumes nothing.
use Rattle.std.specs.Prelude.{ℕ, Bool, not, ◌&&◌, List, [], ◌∷◌, map, eqb, ltb, length, ℤ}
use Rattle.arith.specs.First.{Test, first}
use Rattle.message_rows.specs.Message.{kind_refusal}
use Rattle.grid_shifts.specs.declared.Shift.{Shift}
use Rattle.grid_shifts.specs.Shift.{message_shift}
use Rattle.sample_files.specs.File.{most_points}

-- a point without a claim
pub record Asked : Type 0 where
  pub component : ℕ
  pub north : ℤ
  pub east : ℤ

-- the points of three lists: as many as the shortest has
unfoldable pub asked_of : List ℕ → List ℤ → List ℤ → List Asked
asked_of [] ns es = []
asked_of (c ∷ cs) [] es = []
asked_of (c ∷ cs) (n ∷ ns) [] = []
asked_of (c ∷ cs) (n ∷ ns) (e ∷ es) = record { component = c; north = n; east = e } ∷ asked_of cs ns es

-- the message's answer at a point
unfoldable pub answer_at : List ℕ → Asked → Shift
answer_at m p = message_shift m p.component p.north p.east

-- a refusal number that another call gives
abbrev pub given : ℕ → Test
given n = (n, not (eqb n 0))

unfoldable pub point_test : List ℕ → Asked → Test
point_test m p = given (answer_at m p).refusal

-- "that of the first refused point"
unfoldable pub first_refused : List ℕ → List Asked → ℕ
first_refused m ps = first (map (point_test m) ps)

abbrev pub equal_counts : List ℕ → List ℤ → List ℤ → Bool
equal_counts cs ns es = eqb (length cs) (length ns) && eqb (length cs) (length es)

-- "1 to 5 and KIND for the message", 3 LENGTH where the three lists differ in length, "that of the first refused point",
-- 3 "LENGTH above 1,000 points"
unfoldable pub points_refusal : List ℕ → List ℕ → List ℤ → List ℤ → ℕ
points_refusal m cs ns es =
    first
    (given (kind_refusal 1023 1024 m)
    ∷ (3, not (equal_counts cs ns es))
    ∷ given (first_refused m (asked_of cs ns es))
    ∷ (3, ltb most_points (length (asked_of cs ns es)))
    ∷ [])
