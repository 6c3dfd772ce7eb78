-- What the code tests of a file's shape, field by field. That it is the shape of specs/File is proved.
-- Assumes nothing.
use Rattle.std.specs.Prelude.{ℕ, zero, suc, ◌/◌, ◌%◌, Bool, true, ◌&&◌, List, eqb, leb, length, get_or, drop}
use Rattle.sample_numbers.specs.Number.{number}
use Rattle.sample_files.specs.File.{point_size, most_points, message_end, rest_of}

unfoldable pub message_first : List ℕ → Bool
message_first f = leb 3 (length f) && (eqb (get_or f 0 0) 1 && leb (message_end f) (length f))

-- s begins with the tag and the length of a point
unfoldable pub point_head : List ℕ → Bool
point_head s = eqb (get_or s 0 0) 2 && eqb (number 2 (drop 1 s)) 25

unfoldable pub point_heads : ℕ → List ℕ → Bool
point_heads zero s = true
point_heads (suc n) s = point_head s && point_heads n (drop point_size s)

-- s is the fields of at most 1,000 points, and nothing else
unfoldable pub only_points : List ℕ → Bool
only_points s = eqb (length s % point_size) 0 && (leb (length s / point_size) most_points && point_heads (length s / point_size) s)

unfoldable pub tested : List ℕ → Bool
tested f = message_first f && only_points (rest_of f)
