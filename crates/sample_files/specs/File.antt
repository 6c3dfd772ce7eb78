-- A file of sample answers, as a message and points, and as bytes: request A13, "The file is tagged fields".
-- Assumes nothing.
use Rattle.std.specs.Prelude.{ℕ, zero, suc, ◌+◌, ◌/◌, Bool, ◌&&◌, List, [], ◌∷◌, ◌++◌, leb, pos, length, get_or, take, drop}
use Rattle.text_words.specs.Words.{same}
use Rattle.sample_numbers.specs.Number.{number, bytes_of, whole, whole_bytes}
use Rattle.sample_files.specs.declared.SamplePoint.{SamplePoint}

-- ---- the bytes of a message and points

-- "one byte tag, two bytes length (high byte first), contents"
unfoldable pub field : ℕ → List ℕ → List ℕ
field tag contents = tag ∷ (bytes_of 2 (length contents) ++ contents)

-- "tag 2, 25 bytes: component, north-south and east-west position, claimed count, the last three as 8 bytes"
unfoldable pub point_field : SamplePoint → List ℕ
point_field p = field 2 (p.component ∷ (whole_bytes p.north ++ (whole_bytes p.east ++ whole_bytes p.claim)))

unfoldable pub point_fields : List SamplePoint → List ℕ
point_fields [] = []
point_fields (p ∷ ps) = point_field p ++ point_fields ps

-- "The first is tag 1, a grid message. Then .. of tag 2"
unfoldable pub file_of : List ℕ → List SamplePoint → List ℕ
file_of message points = field 1 message ++ point_fields points

-- ---- the message and the points of bytes

-- the bytes of a point's field, and "at most 1,000"
abbrev pub point_size : ℕ
point_size = 28

abbrev pub most_points : ℕ
most_points = 1000

-- the message stands behind its tag and its length, and ends here
abbrev pub message_end : List ℕ → ℕ
message_end f = 3 + number 2 (drop 1 f)

unfoldable pub message_of : List ℕ → List ℕ
message_of f = take (number 2 (drop 1 f)) (drop 3 f)

-- the fields behind the message
unfoldable pub rest_of : List ℕ → List ℕ
rest_of f = drop (message_end f) f

-- the point of the field that s begins with
unfoldable pub point_of : List ℕ → SamplePoint
point_of s = record { component = get_or s 3 0; north = whole (drop 4 s); east = whole (drop 12 s); claim = whole (drop 20 s) }

-- the points of the first n fields of s
unfoldable pub points_in : ℕ → List ℕ → List SamplePoint
points_in zero s = []
points_in (suc n) s = point_of s ∷ points_in n (drop point_size s)

unfoldable pub points_of : List ℕ → List SamplePoint
points_of f = points_in (length (rest_of f) / point_size) (rest_of f)

-- ---- the shape: f is the bytes of its message and its points, of which there are "at most 1,000"

unfoldable pub shape : List ℕ → Bool
shape f = same f (file_of (message_of f) (points_of f)) && leb (length (points_of f)) most_points

-- ---- answers for any bytes

-- point i, from 0; all zero where there is none
abbrev pub no_point : SamplePoint
no_point = record { component = 0; north = pos 0; east = pos 0; claim = pos 0 }
