-- What the fields of a row are within, where each entry of its layout takes its own: by the width of the entry.
-- Assumes nothing.
use Rattle.std.proofs.Common.{Option, Some, None}
use mathlib.Core.Path.{◌≡◌}
use mathlib.Core.Bool.{Bool, true, false, cond}
use mathlib.Core.List.{List, [], ◌∷◌}
use Prim.Native.Nat.{ℕ, zero, suc, ◌^◌, ◌≤◌, ◌<◌}
use native.Mathlib.Nat.{not-suc-le-zero, le_of_suc-le-suc}
use native.Mathlib.Omega.{arith}
use borrow.Author.Tests.{ltb-true}
use lib.Dec.{T, leb, leb→le}
use lib.IntN.{ℤ, pos, negsuc, nat_abs}
use lib.ListN.{length, get_or}
use Rattle.arith.proofs.Tests.{false-ne-true, both_first, both-second}
use Rattle.field.specs.Field.{none_of}
use Rattle.layout.specs.Layout.{all_take, takes, of_width, signed, width, value_in}

-- ---- one field

below-width : (b : Bool) (w : ℕ) (z : ℤ) → of_width b w z ≡ true → nat_abs z < cond b (none_of w) (2 ^ w)
below-width true w z h = ltb-true (nat_abs z) (none_of w) h
below-width false w (pos n) h = ltb-true n (2 ^ w) h
below-width false w (negsuc n) h = absurd (false-ne-true h)

-- the width of the entry has no value beyond b
abbrev pub Upto : ℕ → ℕ → Type 0
Upto e b = T (leb (cond (signed e) (none_of (width e)) (2 ^ width e)) (suc b))

pub bounded : (e : ℕ) (r : Option ℤ) (b : ℕ) → takes e r ≡ true → Upto e b → nat_abs (value_in r) ≤ b
bounded e (Some z) b h t =
    omega (arith, below-width (signed e) (width e) z (both_first _ _ h), leb→le (cond (signed e) (none_of (width e)) (2 ^ width e)) (suc b) t)
bounded e None b h t = omega arith

-- ---- the places of a row

pub takes_at : (es : List ℕ) (rs : List (Option ℤ)) → all_take es rs ≡ true → (i : ℕ) → i < length es → takes (get_or es i 0) (get_or rs i (Some (pos 0))) ≡ true
unfolding all_take
takes_at [] rs h i k = absurd (not-suc-le-zero k)
takes_at (e ∷ es) [] h i k = absurd (false-ne-true h)
takes_at (e ∷ es) (r ∷ rs) h zero k = both_first (takes e r) (all_take es rs) h
takes_at (e ∷ es) (r ∷ rs) h (suc i) k = takes_at es rs (both-second (takes e r) (all_take es rs) h) i (le_of_suc-le-suc k)
