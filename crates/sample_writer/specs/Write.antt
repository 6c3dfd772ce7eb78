-- What the writer writes and refuses: request A13, "Write such a file from a message and points".
-- Assumes nothing.
use Rattle.std.specs.Prelude.{ℕ, List, [], ◌∷◌, map, ltb, length, ℤ}
use Rattle.arith.specs.First.{first}
use Rattle.sample_files.specs.declared.SamplePoint.{SamplePoint}
use Rattle.sample_files.specs.File.{file_of}
use Rattle.sample_writer.specs.Refusals.{Asked, asked_of, answer_at, given, points_refusal}

-- a point with the message's answer there as its claim
unfoldable pub sample : List ℕ → Asked → SamplePoint
sample m p = record { component = p.component; north = p.north; east = p.east; claim = (answer_at m p).count }

unfoldable pub samples_file : List ℕ → List Asked → List ℕ
samples_file m ps = file_of m (map (sample m) ps)

-- the refusals of the message and the points, "then" 6 "ROOM"
unfoldable pub write_refusal : List ℕ → List ℕ → List ℤ → List ℤ → ℕ → ℕ
write_refusal m cs ns es room =
    first (given (points_refusal m cs ns es) ∷ (6, ltb room (length (samples_file m (asked_of cs ns es)))) ∷ [])
