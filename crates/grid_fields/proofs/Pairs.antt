-- Two nodes side by side are one number of 54 bits, whose six parts are their components.
-- Assumes nothing.
use Prim.Native.Nat.{ℕ, ◌+◌, ◌-◌, ◌*◌, ◌/◌, ◌%◌, ◌^◌, ◌≤◌, ◌<◌, min}
use native.Mathlib.Omega.{arith}
use mathlib.Core.Path.{◌≡◌, refl, sym, ap, ◌∙◌}
use mathlib.Core.Bool.{Bool, true, false, cond}
use mathlib.Core.List.{List}
use lib.Dec.{eqb}
use lib.ListN.{length}
use borrow.Author.Tests.{lt-ltb, le-ltb}
use Rattle.field.specs.Field.{field, signed_of}
use Rattle.field.specs.Inner.{field_at, signed_at}
use Rattle.field.proofs.Bit.{field-part}
use Rattle.field.proofs.Place.{field-inside}
use Rattle.grid_fields.specs.Inner.{grid_says, node_says, cell_says}
use Rattle.grid_fields.proofs.Table.{grid-1023, grid-1024}
use Rattle.grid_fields.specs.Private.{first_bit, component_of}
use Rattle.grid_fields.proofs.NodeTable.{node-1023, node-1024}

-- the 9 bits of 54 that have r below them
part : (s : List ℕ) (p o r : ℕ) → o + 9 + r ≡ 54 → p ≤ 65000 → p + 54 ≤ 8 * length s → field_at s p 54 / 2 ^ r % 2 ^ 9 ≡ field_at s (p + o) 9
part s p o r e l h =
    ap (λ (n : ℕ). n / 2 ^ r % 2 ^ 9) (field-inside s p 54 (omega arith) (omega arith) h)
    ∙ ap (λ (n : ℕ). field s p n / 2 ^ r % 2 ^ 9) (sym e)
    ∙ field-part s p o 9 r
    ∙ sym (field-inside s (p + o) 9 (omega arith) (omega arith) (omega arith))

pub first-most : (s : List ℕ) → first_bit s ≤ 132
unfolding first_bit
first-most s = by (eqb (field_at s 0 12) 1023)
  where
    by : (b : Bool) → cond b 120 132 ≤ 132
    by true = omega arith
    by false = omega arith

-- a node at its bit
node_by : (s : List ℕ) (i c : ℕ) → i < 16 → (b : Bool) → eqb (field_at s 0 12) 1023 ≡ b
    → grid_says s (11 + 3 * i + min c 2) ≡ signed_at s (first_bit s + 9 * (3 * i + min c 2)) 9
unfolding first_bit
node_by s i c h true e = rw e (sym (grid-1023 s e (11 + 3 * i + min c 2)) ∙ node-1023 s i c h)
node_by s i c h false e = rw e (sym (grid-1024 s e (11 + 3 * i + min c 2)) ∙ node-1024 s i c h)

pub node-at-bit : (s : List ℕ) (i c : ℕ) → i < 16 → node_says s c i ≡ signed_at s (first_bit s + 9 * (3 * i + min c 2)) 9
unfolding node_says
node-at-bit s i c h = rw (lt-ltb i 16 h) (node_by s i c h (eqb (field_at s 0 12) 1023) refl)

-- a component of node j in the number of nodes i and i + 1
said : (s : List ℕ) → 71 ≤ length s → (i j c o r : ℕ) → i < 15 → j < 16 → 9 * (3 * j + min c 2) ≡ 27 * i + o → o + 9 + r ≡ 54
    → signed_of 9 (field_at s (first_bit s + 27 * i) 54 / 2 ^ r % 2 ^ 9) ≡ node_says s c j
unfolding signed_at
said s h i j c o r l m e t =
    let k : first_bit s ≤ 132 = first-most s in
    let q : first_bit s + 27 * i + o ≡ first_bit s + 9 * (3 * j + min c 2) = omega arith in
    ap (signed_of 9) (part s (first_bit s + 27 * i) o r t (omega arith) (omega arith))
    ∙ ap (λ (p : ℕ). signed_of 9 (field_at s p 9)) q
    ∙ sym (node-at-bit s j c m)

-- a component of the nodes of a cell
pub cell-said : (s : List ℕ) → 71 ≤ length s → (k l c a b : ℕ) → k ≤ 2 → l ≤ 2 → 9 * min c 2 + 9 + a ≡ 54 → b + 27 ≡ a
    → component_of (field_at s (first_bit s + 27 * (4 * (3 - k) + l)) 54) (field_at s (first_bit s + 27 * (4 * (2 - k) + l)) 54) (2 ^ a) (2 ^ b) ≡ cell_says s c k l
unfolding cell_says
cell-said s h k l c a b m n e f =
    rw (le-ltb 2 k m, le-ltb 2 l n)
    (λ i. record {
      sw = said s h (4 * (3 - k) + l) (4 * (3 - k) + l) c (9 * min c 2) a (omega arith) (omega arith) (omega arith) e i;
      se = said s h (4 * (3 - k) + l) (4 * (3 - k) + (l + 1)) c (27 + 9 * min c 2) b (omega arith) (omega arith) (omega arith) (omega arith) i;
      nw = said s h (4 * (2 - k) + l) (4 * (2 - k) + l) c (9 * min c 2) a (omega arith) (omega arith) (omega arith) e i;
      ne = said s h (4 * (2 - k) + l) (4 * (2 - k) + (l + 1)) c (27 + 9 * min c 2) b (omega arith) (omega arith) (omega arith) (omega arith) i;
    })
