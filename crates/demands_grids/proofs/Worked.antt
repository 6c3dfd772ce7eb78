-- The worked numbers hold, by computation from the bytes.
-- Assumes nothing.
use mathlib.Core.Path.{◌≡◌, refl}
use mathlib.Core.Bool.{true}
use Prim.Native.Nat.{ℕ, zero, suc, ◌<◌}
use native.Mathlib.Omega.{arith}
use Rattle.arith.specs.Whole.{same_z}
use Rattle.field.specs.Field.{bit_at, field, twos, signed_of}
use Rattle.layout.specs.Layout.{all_take, total, decode_all, zero_from}
use Rattle.record_grids.specs.Grids.{grid_of, origin_at, spacing_at, shifts_at, shifts_row, nodes_at, nodes_row}
use Rattle.record_rows.specs.Numbers.{pair_at}
use Rattle.layout_tables.specs.Layouts.{layout_of, layout1021, tail1021, layout1023}
use Rattle.message_rows.specs.Message.{layout, refusal, row}
use Rattle.grid_bilinear.specs.Bilinear.{nearest_whole, from_edge, outside, cell, weighted, in_cell, exact, interpolated, lacks, absent_in, absent}
use Rattle.grid_shifts.specs.Shift.{surface, north_of, east_of, shift_refusal, answer_of, outcome, shift_with, message_shift}
use Rattle.grid_place.specs.Position.{by_turns}
use Rattle.demands_grids.specs.Worked.{grid_k, grid_k_negated, grid_k_node7, grid_k_north0, grid_k_east0, grid_k_both0, answer_to, table, given, wanted, WorkedNumbers, WorkedMetres, GridsRead, GridKPresent}
use Rattle.demands_grids.specs.Grids.{surface_at}

pub grids-read : GridsRead
unfolding grid_k grid_k_negated grid_k_node7 grid_k_north0 grid_k_east0 grid_k_both0 refusal row layout layout_of layout1023 total zero_from decode_all all_take field bit_at twos signed_of nodes_row shifts_row
grids-read = record { grid = refl; negated = refl; node7 = refl; north0 = refl; east0 = refl; both0 = refl }

-- a number below 4 is one of four
four : (P : ℕ → Type 0) → P 0 → P 1 → P 2 → P 3 → (i : ℕ) → i < 4 → P i
four P a b c d zero h = a
four P a b c d (suc zero) h = b
four P a b c d (suc (suc zero)) h = c
four P a b c d (suc (suc (suc zero))) h = d
four P a b c d (suc (suc (suc (suc i)))) h = absurd (omega arith)

pub grid-k-present : GridKPresent
unfolding grid_k refusal row layout layout_of layout1023 total zero_from decode_all all_take field bit_at twos signed_of grid_of pair_at origin_at spacing_at shifts_at nodes_at surface same_z
grid-k-present =
    λ i j hi hj. four (λ (i : ℕ). (surface_at grid_k 2).present i j ≡ true) (row0 j hj) (row1 j hj) (row2 j hj) (row3 j hj) i hi
  where
    row0 : (j : ℕ) → j < 4 → (surface_at grid_k 2).present 0 j ≡ true
    row0 = four (λ (j : ℕ). (surface_at grid_k 2).present 0 j ≡ true) refl refl refl refl

    row1 : (j : ℕ) → j < 4 → (surface_at grid_k 2).present 1 j ≡ true
    row1 = four (λ (j : ℕ). (surface_at grid_k 2).present 1 j ≡ true) refl refl refl refl

    row2 : (j : ℕ) → j < 4 → (surface_at grid_k 2).present 2 j ≡ true
    row2 = four (λ (j : ℕ). (surface_at grid_k 2).present 2 j ≡ true) refl refl refl refl

    row3 : (j : ℕ) → j < 4 → (surface_at grid_k 2).present 3 j ≡ true
    row3 = four (λ (j : ℕ). (surface_at grid_k 2).present 3 j ≡ true) refl refl refl refl

pub worked-numbers : WorkedNumbers
unfolding grid_k grid_k_negated grid_k_node7 grid_k_north0 grid_k_east0 grid_k_both0 table given wanted answer_to refusal row layout layout_of layout1021 tail1021 layout1023 total zero_from decode_all all_take field bit_at twos signed_of grid_of pair_at origin_at spacing_at shifts_at nodes_at surface north_of by_turns east_of shift_refusal answer_of outcome shift_with message_shift nearest_whole from_edge outside cell weighted in_cell exact interpolated lacks absent_in absent same_z
worked-numbers = refl

pub worked-metres : WorkedMetres
unfolding grid_k refusal row layout layout_of layout1023 total zero_from decode_all all_take field bit_at twos signed_of grid_of pair_at origin_at spacing_at shifts_at nodes_at surface north_of by_turns east_of shift_refusal answer_of outcome shift_with message_shift nearest_whole from_edge outside cell weighted in_cell exact interpolated lacks absent_in absent same_z
worked-metres = refl
