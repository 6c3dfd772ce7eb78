-- The fields of the two grid layouts, by the number DF002.
-- Assumes nothing.
use Prim.Native.Nat.{ℕ, zero, suc, ◌+◌, min}
use native.Mathlib.Omega.{arith}
use mathlib.Core.Path.{◌≡◌, refl, ◌∙◌}
use Rattle.std.proofs.Common.{Some, pos}
use mathlib.Core.Bool.{true, false}
use mathlib.Core.List.{List}
use lib.Dec.{eqb}
use borrow.Author.Tests.{ne_eqb}
use Rattle.field.specs.Inner.{field_at, signed_at}
use Rattle.layout.specs.Layout.{total}
use Rattle.record_rows.specs.Numbers.{pair_at}
use Rattle.record_grids.specs.Grids.{origin_at, spacing_at, shifts_at}
use Rattle.record_grids.specs.Inner.{settings_at}
use Rattle.layout_tables.specs.Layouts.{layout1023, layout1024}
use Rattle.grid_fields.specs.Inner.{grid_layout, grid_says}
use Rattle.grid_fields.specs.Private.{field_says, settings_from, mean_from, means_from}

pub grid-1023 : (s : List ℕ) → eqb (field_at s 0 12) 1023 ≡ true → (k : ℕ) → field_says layout1023 s k ≡ grid_says s k
unfolding grid_says grid_layout field_says
grid-1023 s e k = rw e

pub grid-1024 : (s : List ℕ) → eqb (field_at s 0 12) 1023 ≡ false → (k : ℕ) → field_says layout1024 s k ≡ grid_says s k
unfolding grid_says grid_layout field_says
grid-1024 s e k = rw e

-- ---- the fields of each layout at the bits that the code names

module _ (s : List ℕ) where
  settings-in-1023 : settings_from s 22 21 (signed_at s 43 22) 65 552 ≡ settings_at (field_says layout1023 s)
  unfolding settings_at pair_at origin_at spacing_at field_says layout1023 total signed_at
  settings-in-1023 = refl

  settings-in-1024 : settings_from s 22 25 (Some (pos (field_at s 47 26))) 73 564 ≡ settings_at (field_says layout1024 s)
  unfolding settings_at pair_at origin_at spacing_at field_says layout1024 total signed_at
  settings-in-1024 = refl

  mean-in-1023 : (c : ℕ) → mean_from s 89 8 c ≡ field_says layout1023 s (8 + min c 2)
  unfolding field_says layout1023 total signed_at
  mean-in-1023 zero = refl
  mean-in-1023 (suc zero) = refl
  mean-in-1023 (suc (suc c)) = let m : min (suc (suc c)) 2 ≡ 2 = omega arith in rw (m, ne_eqb (suc (suc c)) 0 (λ z. absurd (omega arith)), ne_eqb (suc (suc c)) 1 (λ z. absurd (omega arith)))

  mean-in-1024 : (c : ℕ) → mean_from s 97 10 c ≡ field_says layout1024 s (8 + min c 2)
  unfolding field_says layout1024 total signed_at
  mean-in-1024 zero = refl
  mean-in-1024 (suc zero) = refl
  mean-in-1024 (suc (suc c)) = let m : min (suc (suc c)) 2 ≡ 2 = omega arith in rw (m, ne_eqb (suc (suc c)) 0 (λ z. absurd (omega arith)), ne_eqb (suc (suc c)) 1 (λ z. absurd (omega arith)))

  module _ (e : eqb (field_at s 0 12) 1023 ≡ true) where
    pub settings-1023 : settings_from s 22 21 (signed_at s 43 22) 65 552 ≡ settings_at (grid_says s)
    settings-1023 = settings-in-1023 ∙ (λ i. settings_at (λ k. grid-1023 s e k i))

    pub mean-1023 : (c : ℕ) → mean_from s 89 8 c ≡ grid_says s (8 + min c 2)
    mean-1023 c = mean-in-1023 c ∙ grid-1023 s e (8 + min c 2)

    pub means-1023 : means_from s 89 8 ≡ shifts_at (grid_says s) 8
    unfolding shifts_at
    means-1023 = λ i. record { north = mean-1023 0 i; east = mean-1023 1 i; height = mean-1023 2 i }

  module _ (e : eqb (field_at s 0 12) 1023 ≡ false) where
    pub settings-1024 : settings_from s 22 25 (Some (pos (field_at s 47 26))) 73 564 ≡ settings_at (grid_says s)
    settings-1024 = settings-in-1024 ∙ (λ i. settings_at (λ k. grid-1024 s e k i))

    pub mean-1024 : (c : ℕ) → mean_from s 97 10 c ≡ grid_says s (8 + min c 2)
    mean-1024 c = mean-in-1024 c ∙ grid-1024 s e (8 + min c 2)

    pub means-1024 : means_from s 97 10 ≡ shifts_at (grid_says s) 8
    unfolding shifts_at
    means-1024 = λ i. record { north = mean-1024 0 i; east = mean-1024 1 i; height = mean-1024 2 i }
