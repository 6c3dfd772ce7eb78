-- What only promises between crates name.
-- Assumes nothing.
use Rattle.std.specs.Prelude.{ℕ, ◌+◌, ◌/◌, List, [], ◌∷◌, ◌++◌, not, cond, ltb, eqb, length, ℤ}
use Rattle.arith.specs.First.{Test, first}
use Rattle.field.specs.Inner.{field_at}
use Rattle.layout.specs.Layout.{width, reading_of, takes, total, zero_from, read_tests, room_tests, encode_tests}

-- the same for at most 96 entries, else 0
unfoldable pub bits_of : List ℕ → ℕ
bits_of es = cond (ltb 96 (length es)) 0 (total es)

unfoldable pub refusal_of : List ℕ → List ℕ → ℕ
refusal_of es s = first (read_tests es s)

-- why s is no message of so many bits: 3 LENGTH, 4 FILL
abbrev pub size_tests : ℕ → List ℕ → List Test
size_tests bits s =
    (3, ltb 65535 bits) ∷ (3, not (eqb (length s) ((bits + 7) / 8))) ∷ (4, not (zero_from s bits)) ∷ []

unfoldable pub size_refusal : ℕ → List ℕ → ℕ
size_refusal bits s = first (size_tests bits s)

-- r; or 5 RANGE, where r is 0 and entry e does not take what its field at bit p says
unfoldable pub place_refusal : ℕ → ℕ → ℕ → List ℕ → ℕ
place_refusal r p e s = cond (eqb r 0) (cond (takes e (reading_of e (field_at s p (width e)))) 0 5) r

-- the same, then 6 ROOM
abbrev pub decode_tests : List ℕ → List ℕ → ℕ → ℕ → List Test
decode_tests es s m n = read_tests es s ++ room_tests es m n

unfoldable pub decode_refusal : List ℕ → List ℕ → ℕ → ℕ → ℕ
decode_refusal es s m n = first (decode_tests es s m n)

unfoldable pub encode_refusal : List ℕ → List ℤ → List ℕ → ℕ → ℕ
encode_refusal es zs bs n = first (encode_tests es zs bs n)
