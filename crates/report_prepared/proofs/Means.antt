-- What a message says of a mean is within the field's width, whatever its bytes.
-- Assumes nothing.
use Rattle.std.proofs.Common.{Option, Some, None, is_some, refl}
use mathlib.Core.Path.{◌≡◌}
use mathlib.Core.Bool.{Bool, true, false, cond}
use mathlib.Core.List.{List}
use Prim.Native.Nat.{ℕ, zero, suc, ◌+◌, ◌^◌, ◌≤◌, ◌<◌, min}
use native.Mathlib.Omega.{arith}
use native.Mathlib.Nat.{le_trans}
use native.Mathlib.Decide.{ℕ_discrete}
use borrow.Author.Tests.{eq-eqb, ne_eqb}
use lib.Dec.{T, eqb, leb, leb→le}
use lib.IntN.{ℤ, nat_abs}
use lib.ListN.{get_or, take}
use Rattle.field.specs.Inner.{field_at}
use Rattle.field.specs.Field.{signed_of, none_of, twos}
use Rattle.field.proofs.Place.{field_at-lt}
use Rattle.layout.specs.Layout.{width, signed, total, reading_of, value_in, available}
use Rattle.layout.proofs.Says.{from-T, near}
use Rattle.layout_tables.specs.Layouts.{layout1023, layout1024}
use Rattle.grid_fields.specs.Inner.{grid_layout, grid_says, mean_says}

-- a signed field of w bits
signed-most : (w u : ℕ) → u < 2 ^ w → nat_abs (value_in (signed_of w u)) ≤ none_of w
unfolding signed_of
signed-most w u h = by (ℕ_discrete u (none_of w))
  where
    by : Dec (u ≡ none_of w) → nat_abs (value_in (cond (eqb u (none_of w)) None (Some (twos w u)))) ≤ none_of w
    by (yes d) = rw (eq-eqb u (none_of w) d) (omega arith)
    by (no d) = rw (ne_eqb u (none_of w) d) (omega (arith, near w u h d))

-- a signed field by its entry
abbrev Small : ℕ → Type 0
Small e = T (signed e) × T (leb (none_of (width e)) 16384)

entry-most : (s : List ℕ) (p e : ℕ) → Small e → nat_abs (value_in (reading_of e (field_at s p (width e)))) ≤ 16384
entry-most s p e h =
    rw (from-T (signed e) h.0) (le_trans (signed-most (width e) (field_at s p (width e)) (field_at-lt s p (width e))) (leb→le _ 16384 h.1))

-- any other component counts as 2
capped : (c : ℕ) → min (suc (suc c)) 2 ≡ 2
capped c = omega arith

-- the entries of the three means
mean-small : (b : Bool) (c : ℕ) → Small (get_or (cond b layout1023 layout1024) (8 + min c 2) 0)
unfolding layout1023 layout1024
mean-small true zero = (tt, tt)
mean-small true (suc zero) = (tt, tt)
mean-small true (suc (suc c)) = rw capped (tt, tt)
mean-small false zero = (tt, tt)
mean-small false (suc zero) = (tt, tt)
mean-small false (suc (suc c)) = rw capped (tt, tt)

pub mean-most : (s : List ℕ) (c : ℕ) → nat_abs (value_in (mean_says s c)) ≤ 16384
unfolding mean_says grid_says grid_layout
mean-most s c =
    let l : List ℕ = cond (eqb (field_at s 0 12) 1023) layout1023 layout1024 in
    entry-most s (total (take (8 + min c 2) l)) (get_or l (8 + min c 2) 0) (mean-small (eqb (field_at s 0 12) 1023) c)

-- the library's test of a value
pub some-available : (r : Option ℤ) → is_some r ≡ available r
some-available (Some z) = refl
some-available None = refl
