-- The nodes in the two grid layouts, at their bits.
-- Assumes nothing.
use Prim.Native.Nat.{ℕ, ◌+◌, ◌*◌, ◌<◌, min}
use native.Mathlib.Nat.{min-le_right, add_assoc}
use native.Mathlib.Omega.{arith}
use mathlib.Core.Path.{◌≡◌, refl}
use mathlib.Core.Bool.{Bool, true, ◌&&◌}
use mathlib.Core.List.{List}
use lib.Dec.{eqb}
use lib.ListN.{get_or, take}
use borrow.Author.Tests.{eqb-true}
use Rattle.arith.specs.Lists.{all_below}
use Rattle.arith.proofs.Tests.{both_first, both-second, all-at}
use Rattle.field.specs.Inner.{signed_at}
use Rattle.layout.specs.Layout.{int, total}
use Rattle.layout_tables.specs.Layouts.{layout1023, layout1024}
use Rattle.grid_fields.specs.Private.{field_says}

-- place j of the nodes is a signed field of 9 bits, and the first is at a given bit
abbrev node_is : List ℕ → ℕ → ℕ → Bool
node_is l first j = eqb (total (take (11 + j) l)) (first + 9 * j) && eqb (get_or l (11 + j) 0) (int 9)

node-says : (l : List ℕ) (first : ℕ) → all_below (node_is l first) 48 ≡ true → (s : List ℕ) (i c : ℕ) → i < 16
    → field_says l s (11 + 3 * i + min c 2) ≡ signed_at s (first + 9 * (3 * i + min c 2)) 9
unfolding field_says signed_at
node-says l first t s i c h =
    let j : ℕ = 3 * i + min c 2 in
    let u = all-at (node_is l first) 48 t j (omega (arith, min-le_right c 2)) in
    let a : total (take (11 + j) l) ≡ first + 9 * j = eqb-true _ _ (both_first (eqb (total (take (11 + j) l)) (first + 9 * j)) _ u) in
    let b : get_or l (11 + j) 0 ≡ int 9 = eqb-true _ _ (both-second (eqb (total (take (11 + j) l)) (first + 9 * j)) _ u) in
    rw (add_assoc 11 (3 * i) (min c 2), a, b)

pub node-1023 : (s : List ℕ) (i c : ℕ) → i < 16 → field_says layout1023 s (11 + 3 * i + min c 2) ≡ signed_at s (120 + 9 * (3 * i + min c 2)) 9
unfolding layout1023 total
node-1023 = node-says layout1023 120 refl

pub node-1024 : (s : List ℕ) (i c : ℕ) → i < 16 → field_says layout1024 s (11 + 3 * i + min c 2) ≡ signed_at s (132 + 9 * (3 * i + min c 2)) 9
unfolding layout1024 total
node-1024 = node-says layout1024 132 refl
