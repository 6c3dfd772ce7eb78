-- What only promises between crates name.
-- Assumes nothing.
use Rattle.std.specs.Prelude.{ℕ, min, List, length, get_or}
use Rattle.sample_files.specs.declared.SamplePoint.{SamplePoint}
use Rattle.sample_files.specs.File.{message_end, points_of, no_point}

-- where the message ends, or the file where that is earlier
unfoldable pub end_in : List ℕ → ℕ
end_in f = min (message_end f) (length f)

unfoldable pub point_at : List ℕ → ℕ → SamplePoint
point_at f i = get_or (points_of f) i no_point
