-- Reading and writing a record of one kind: refusals 1 to 5 and 7, and 5 and 6.
-- Assumes nothing.
use Rattle.std.specs.Prelude.{ℕ, Bool, true, ◌&&◌, List, Option, ℤ}
use Rattle.record_transformations.specs.declared.Name.{Name}
use Rattle.record_transformations.specs.declared.Helmert.{Helmert}
use Rattle.record_transformations.specs.declared.MolodenskiBadekas.{MolodenskiBadekas}
use Rattle.record_grids.specs.declared.Grid.{Grid}
use Rattle.record_projections.specs.declared.Projection.{Projection}
use Rattle.record_projections.specs.declared.Lambert.{Lambert}
use Rattle.record_projections.specs.declared.ObliqueMercator.{ObliqueMercator}
use Rattle.record_transformations.specs.Transformations.{good_name, helmert_of, helmert_row, molodenski_badekas_of, molodenski_badekas_row}
use Rattle.record_grids.specs.Grids.{grid_of, grid_row}
use Rattle.record_projections.specs.Projections.{projection_of, projection_row, lambert_of, lambert_row, oblique_mercator_of, oblique_mercator_row}
use Rattle.record_rows.specs.Numbers.{says, values_of, present_of}
use Rattle.message_rows.specs.Message.{kind_refusal, kind_row, row_held, Outcome, write_kind}

-- ---- reading: with a refusal every field of the record is zero, a signed one the value 0

-- what a reader of a kind gives: a refusal number, 0 for none, and the record
pub record RecordRead (R : Type 0) : Type 0 where
  pub refusal : ℕ
  pub value : R

-- a message of the numbers lo to hi, whose record is made of what the places of its row say
abbrev pub read_record : {R : Type 0} → ℕ → ℕ → ((ℕ → Option ℤ) → R) → List ℕ → RecordRead R
read_record lo hi made s = record { refusal = kind_refusal lo hi s; value = made (says (kind_row lo hi s)) }

unfoldable pub read_helmert : List ℕ → RecordRead Helmert
read_helmert s = read_record 1021 1021 helmert_of s

unfoldable pub read_molodenski_badekas : List ℕ → RecordRead MolodenskiBadekas
read_molodenski_badekas s = read_record 1022 1022 molodenski_badekas_of s

unfoldable pub read_grid : List ℕ → RecordRead Grid
read_grid s = read_record 1023 1024 grid_of s

unfoldable pub read_projection : List ℕ → RecordRead Projection
read_projection s = read_record 1025 1025 projection_of s

unfoldable pub read_lambert : List ℕ → RecordRead Lambert
read_lambert s = read_record 1026 1026 lambert_of s

unfoldable pub read_oblique_mercator : List ℕ → RecordRead ObliqueMercator
read_oblique_mercator s = read_record 1027 1027 oblique_mercator_of s

-- ---- writing: what is answered, and the output afterwards

-- a record of the numbers lo to hi, with what the places of its row say, written as a message
abbrev pub write_record : ℕ → ℕ → Bool → List (Option ℤ) → List ℕ → Outcome
write_record lo hi good v out = write_kind lo hi good (values_of v) (present_of v) out

-- both names of a record are good
abbrev pub good_names : Name → Name → Bool
good_names source target = good_name source && good_name target

abbrev pub write_helmert : Helmert → List ℕ → Outcome
write_helmert r out = write_record 1021 1021 (good_names r.source r.target) (helmert_row r) out

abbrev pub write_molodenski_badekas : MolodenskiBadekas → List ℕ → Outcome
write_molodenski_badekas r out = write_record 1022 1022 (good_names r.source r.target) (molodenski_badekas_row r) out

abbrev pub write_grid : Grid → List ℕ → Outcome
write_grid r out = write_record 1023 1024 true (grid_row r) out

abbrev pub write_projection : Projection → List ℕ → Outcome
write_projection r out = write_record 1025 1025 true (projection_row r) out

abbrev pub write_lambert : Lambert → List ℕ → Outcome
write_lambert r out = write_record 1026 1026 true (lambert_row r) out

abbrev pub write_oblique_mercator : ObliqueMercator → List ℕ → Outcome
write_oblique_mercator r out = write_record 1027 1027 true (oblique_mercator_row r) out

-- ---- a grid record that a message holds

abbrev pub grid_held : Grid → Bool
grid_held g = row_held 1023 1024 (values_of (grid_row g)) (present_of (grid_row g))
