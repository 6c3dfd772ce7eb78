-- `report_points::prepared::count_in` meets its contract: the nodes of the place's cell, and the count in it.
-- Assumes nothing.
use mathlib.Core.Path.{◌≡◌, sym, ◌∙◌, subst}
use Prim.Native.Nat.{ℕ, ◌+◌, ◌*◌, ◌-◌, ◌≤◌}
use native.Mathlib.Nat.{mul-le-mul}
use native.Mathlib.Omega.{arith}
use lib.IntN.{ℤ, pos}
use mathlib.Core.List.{List}
use lib.ListN.{get_or}
use Rattle.arith.proofs.Back.{held}
use Rattle.grid_bilinear.specs.Bilinear.{cell}
use Rattle.grid_bilinear.proofs.Place.{cell-le, cell-from}
use Rattle.grid_cell.specs.Inner.{weights_in, count_by}
use Rattle.report_prepared.specs.declared.Prepared.{Prepared}
use Rattle.report_prepared.specs.Private.{corners_of, count_in}
use Rattle.report_points.proofs.prepared.count_in.Goals as goal

pub returns : goal.returns
unfolding count_in
returns c = let p : Prepared = c.args.p in
    let row : c.cell_of-row.result ≡ cell p.height c.args.y = c.cell_of-row.ensures in
    let column : c.cell_of-column.result ≡ cell p.width c.args.x = c.cell_of-column.ensures in
    let a = c.args in
    let g = p in
    let v : List ℤ = a.nodes.now in
    let i₀ = c.cell_of-row.result in
    let j₀ = c.cell_of-column.result in
    held c.count_by.result c.count_by.type_inv
    ∙ c.count_by.ensures
    ∙ (λ i. count_by (held g.mean (omega arith) i) g.factor
    (record {
      sw = held (get_or v (4 * (3 - i₀) + j₀) (pos 0)) (omega arith) i;
      se = held (get_or v (4 * (3 - i₀) + (j₀ + 1)) (pos 0)) (omega arith) i;
      nw = held (get_or v (4 * (2 - i₀) + j₀) (pos 0)) (omega arith) i;
      ne = held (get_or v (4 * (2 - i₀) + (j₀ + 1)) (pos 0)) (omega arith) i;
    })
    (c.weights_in-k.ensures i))
    ∙ (λ i. count_by g.mean g.factor (corners_of v (row i) (column i))
    (weights_in g.height g.width (a.y - row i * g.height) (a.x - column i * g.width)))

-- along one direction, a cell by what the call says of it
most : {k : ℕ} (d t : ℕ) → k ≡ cell d t → k ≤ 2
most d t e = subst (λ (n : ℕ). n ≤ 2) (sym e) (cell-le d t)

from-edge : {k : ℕ} (d t : ℕ) → k ≡ cell d t → k * d ≤ t
from-edge d t e = subst (λ (n : ℕ). n * d ≤ t) (sym e) (cell-from d t)

pub overflow_sub-south : goal.overflow_sub-south
overflow_sub-south c = omega (arith, most _ _ c.cell_of-row.ensures)

pub overflow_sub-north : goal.overflow_sub-north
overflow_sub-north c = most _ _ c.cell_of-row.ensures

pub overflow_add-n : goal.overflow_add-n
overflow_add-n c = record { fits = omega (arith, most _ _ c.cell_of-row.ensures, most _ _ c.cell_of-column.ensures) }

pub offset_bounds-nodes-south : goal.offset_bounds-nodes-south
offset_bounds-nodes-south c = record { fits = omega (arith, most _ _ c.cell_of-row.ensures, most _ _ c.cell_of-column.ensures) }

pub bounds-nodes-south : goal.bounds-nodes-south
bounds-nodes-south c = omega (arith, most _ _ c.cell_of-row.ensures, most _ _ c.cell_of-column.ensures)

pub overflow_add-n-2 : goal.overflow_add-n-2
overflow_add-n-2 c = record { fits = omega (arith, most _ _ c.cell_of-column.ensures) }

pub overflow_add-n-3 : goal.overflow_add-n-3
overflow_add-n-3 c = record { fits = omega (arith, most _ _ c.cell_of-row.ensures, most _ _ c.cell_of-column.ensures) }

pub offset_bounds-nodes-south-2 : goal.offset_bounds-nodes-south-2
offset_bounds-nodes-south-2 c = record { fits = omega (arith, most _ _ c.cell_of-row.ensures, most _ _ c.cell_of-column.ensures) }

pub bounds-nodes-south-2 : goal.bounds-nodes-south-2
bounds-nodes-south-2 c = omega (arith, most _ _ c.cell_of-row.ensures, most _ _ c.cell_of-column.ensures)

pub overflow_add-n-4 : goal.overflow_add-n-4
overflow_add-n-4 c = record { fits = omega (arith, most _ _ c.cell_of-row.ensures, most _ _ c.cell_of-column.ensures) }

pub offset_bounds-nodes-north : goal.offset_bounds-nodes-north
offset_bounds-nodes-north c = record { fits = omega (arith, most _ _ c.cell_of-row.ensures, most _ _ c.cell_of-column.ensures) }

pub bounds-nodes-north : goal.bounds-nodes-north
bounds-nodes-north c = omega (arith, most _ _ c.cell_of-row.ensures, most _ _ c.cell_of-column.ensures)

pub overflow_add-n-5 : goal.overflow_add-n-5
overflow_add-n-5 c = record { fits = omega (arith, most _ _ c.cell_of-column.ensures) }

pub overflow_add-n-6 : goal.overflow_add-n-6
overflow_add-n-6 c = record { fits = omega (arith, most _ _ c.cell_of-row.ensures, most _ _ c.cell_of-column.ensures) }

pub offset_bounds-nodes-north-2 : goal.offset_bounds-nodes-north-2
offset_bounds-nodes-north-2 c = record { fits = omega (arith, most _ _ c.cell_of-row.ensures, most _ _ c.cell_of-column.ensures) }

pub bounds-nodes-north-2 : goal.bounds-nodes-north-2
bounds-nodes-north-2 c = omega (arith, most _ _ c.cell_of-row.ensures, most _ _ c.cell_of-column.ensures)

pub overflow_mul-row : goal.overflow_mul-row
overflow_mul-row c = record { fits = omega (arith, mul-le-mul (most _ _ c.cell_of-row.ensures) c.requires.1) }

pub overflow_sub-y : goal.overflow_sub-y
overflow_sub-y c = from-edge _ _ c.cell_of-row.ensures

pub overflow_mul-column : goal.overflow_mul-column
overflow_mul-column c = record { fits = omega (arith, mul-le-mul (most _ _ c.cell_of-column.ensures) c.requires.3) }

pub overflow_sub-x : goal.overflow_sub-x
overflow_sub-x c = from-edge _ _ c.cell_of-column.ensures
