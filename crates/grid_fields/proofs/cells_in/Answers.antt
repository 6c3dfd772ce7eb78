-- `grid_fields::cells_in` meets its contract: each two nodes side by side are one number.
-- Assumes nothing.
use mathlib.Core.Path.{refl, ap, ◌∙◌}
use Prim.Native.Nat.{ℕ, ◌+◌, ◌-◌, ◌*◌}
use native.Mathlib.Omega.{arith}
use Rattle.field.specs.Inner.{field_at}
use Rattle.grid_fields.specs.Private.{components_of}
use Rattle.grid_fields.proofs.Pairs.{first-most, cell-said}
use Rattle.grid_fields.proofs.cells_in.Goals as goal

pub overflow_add-south-2 : goal.overflow_add-south-2
overflow_add-south-2 c = let a = c.args in
    record { fits = omega (arith, c.first_bit-first.ensures, first-most a.s.now) }

pub overflow_add-north-2 : goal.overflow_add-north-2
overflow_add-north-2 c = let a = c.args in
    record { fits = omega (arith, c.first_bit-first.ensures, first-most a.s.now) }

pub returns : goal.returns
returns c = let a = c.args in
    let s = a.s.now in
    let h = c.requires.1.1 in
    let f = c.first_bit-first.ensures in
    c.components_of.ensures
    ∙ (λ i.
    components_of
    ((c.field_at.ensures ∙ ap (λ (n : ℕ). field_at s (n + 27 * (4 * (3 - a.row) + a.column)) 54) f) i)
    ((c.field_at-2.ensures ∙ ap (λ (n : ℕ). field_at s (n + 27 * (4 * (2 - a.row) + a.column)) 54) f) i))
    ∙ (λ i. record {
      north = cell-said s h a.row a.column 0 45 18 c.requires.0 c.requires.1.0 refl refl i;
      east = cell-said s h a.row a.column 1 36 9 c.requires.0 c.requires.1.0 refl refl i;
      height = cell-said s h a.row a.column 2 27 0 c.requires.0 c.requires.1.0 refl refl i;
    })
