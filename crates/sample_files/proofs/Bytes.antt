-- How many bytes a point and a file have.
-- Assumes nothing.
use mathlib.Core.Path.{◌≡◌, refl, ap, ◌∙◌}
use mathlib.Core.List.{List, [], ◌∷◌, ◌++◌}
use Prim.Native.Nat.{ℕ, suc, ◌+◌, ◌*◌}
use native.Mathlib.Omega.{arith}
use lib.ListN.{length, length-append}
use Rattle.sample_numbers.specs.Number.{bytes_of, whole_bytes}
use Rattle.sample_files.specs.declared.SamplePoint.{SamplePoint}
use Rattle.sample_files.specs.File.{field, point_size, point_field, point_fields, file_of}
use Rattle.sample_numbers.proofs.Number.{length-bytes_of, length_whole}

-- the contents of a point's field
abbrev pub contents : SamplePoint → List ℕ
contents p = p.component ∷ (whole_bytes p.north ++ (whole_bytes p.east ++ whole_bytes p.claim))

pub length-contents : (p : SamplePoint) → length (contents p) ≡ 25
length-contents p =
    ap suc
    (length-append (whole_bytes p.north) (whole_bytes p.east ++ whole_bytes p.claim)
    ∙ omega (arith, length_whole p.north, length_whole p.east, length_whole p.claim, length-append (whole_bytes p.east) (whole_bytes p.claim)))

pub length-field : (tag : ℕ) (s : List ℕ) → length (field tag s) ≡ 3 + length s
unfolding field
length-field tag s = ap suc (length-append (bytes_of 2 (length s)) s) ∙ omega (arith, length-bytes_of 2 (length s))

pub length-point : (p : SamplePoint) → length (point_field p) ≡ point_size
unfolding point_field
length-point p = length-field 2 (contents p) ∙ omega (arith, length-contents p)

pub length-points : (ps : List SamplePoint) → length (point_fields ps) ≡ point_size * length ps
unfolding point_fields
length-points [] = refl
length-points (p ∷ ps) = length-append (point_field p) (point_fields ps) ∙ omega (arith, length-point p, length-points ps)

pub length-file : (m : List ℕ) (ps : List SamplePoint) → length (file_of m ps) ≡ 3 + length m + point_size * length ps
unfolding file_of
length-file m ps = length-append (field 1 m) (point_fields ps) ∙ omega (arith, length-field 1 m, length-points ps)
