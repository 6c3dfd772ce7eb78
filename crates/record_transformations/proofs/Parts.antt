-- A row of a 1021 or 1022 is its parts, one behind another.
-- Assumes nothing.
use Rattle.std.proofs.Common.{Option}
use Prim.Native.Nat.{◌+◌, ◌≤◌}
use native.Mathlib.Omega.{arith}
use mathlib.Core.Path.{◌≡◌}
use mathlib.Core.Bool.{true}
use mathlib.Core.List.{List, ◌++◌, append_assoc}
use borrow.Author.Tests.{leb-true}
use lib.Dec.{leb}
use lib.IntN.{ℤ}
use lib.ListN.{length, length-append}
use Rattle.arith.specs.Lists.{all_below}
use Rattle.arith.proofs.Tests.{both_first}
use Rattle.arith.proofs.Lists.{length-up_to}
use Rattle.record_rows.specs.Numbers.{pair_row}
use Rattle.record_transformations.specs.declared.Name.{Name}
use Rattle.record_transformations.specs.declared.Helmert.{Helmert}
use Rattle.record_transformations.specs.declared.MolodenskiBadekas.{MolodenskiBadekas}
use Rattle.record_transformations.specs.Private.{names, shared, last}
use Rattle.record_transformations.specs.Transformations.{name_row, char_at, char_good, good_name, system_row, area_row, parameters_row, point_row, ellipsoids_row, helmert_row, molodenski_badekas_row}

-- ---- names

pub good_length : (n : Name) → good_name n ≡ true → n.length ≤ 31
unfolding good_name
good_length n g = leb-true n.length 31 (both_first (leb n.length 31) (all_below (char_good n) 31) g)

pub length-name_row : (n : Name) → length (name_row n) ≡ 1 + n.length
unfolding name_row
length-name_row n = omega (arith, length-up_to (char_at n.chars) n.length)

pub length-names : (z : ℤ) (s t : Name) → length (names z s t) ≡ 3 + s.length + t.length
length-names z s t = omega (arith, length-append (name_row s) (name_row t), length-name_row s, length-name_row t)

-- ---- rows

five : (n a b c d e : List (Option ℤ)) → n ++ (a ++ b ++ c) ++ (d ++ e) ≡ n ++ a ++ b ++ c ++ d ++ e
five n a b c d e = simp append_assoc

six : (n a b c o d e : List (Option ℤ)) → n ++ (a ++ b ++ c) ++ (o ++ (d ++ e)) ≡ n ++ a ++ b ++ c ++ o ++ d ++ e
six n a b c o d e = simp append_assoc

pub helmert-joined : (r : Helmert) → names r.number r.source r.target ++ shared r.system r.area r.parameters ++ last r.ellipsoids r.quality ≡ helmert_row r
unfolding helmert_row
helmert-joined r =
    five (names r.number r.source r.target) (system_row r.system) (area_row r.area) (parameters_row r.parameters) (ellipsoids_row r.ellipsoids) (pair_row r.quality)

pub molodenski-badekas-joined : (r : MolodenskiBadekas)
    → names r.number r.source r.target ++ shared r.system r.area r.parameters ++ (point_row r.point ++ last r.ellipsoids r.quality) ≡ molodenski_badekas_row r
unfolding molodenski_badekas_row
molodenski-badekas-joined r =
    six (names r.number r.source r.target) (system_row r.system) (area_row r.area) (parameters_row r.parameters) (point_row r.point) (ellipsoids_row r.ellipsoids) (pair_row r.quality)
