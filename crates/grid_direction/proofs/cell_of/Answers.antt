-- `grid_direction::cell_of` meets its contract.
-- Assumes nothing.
use mathlib.Core.Path.{◌≡◌, sym, ap, ◌∙◌}
use Prim.Native.Nat.{ℕ, min}
use native.Mathlib.Nat.{div-zero}
use native.Mathlib.Omega.{arith}
use Rattle.grid_bilinear.specs.Bilinear.{cell}
use Rattle.grid_bilinear.proofs.Place.{cell-is, cell-far}
use Rattle.grid_direction.proofs.cell_of.Goals as goal

-- a quotient by 0 is 0
none : (t : ℕ) → cell 0 t ≡ 0
unfolding cell
none t = ap (min 2) (div-zero t)

pub returns-then-d-eq0 : goal.returns-then-d-eq0
returns-then-d-eq0 c = sym (ap (λ (d : ℕ). cell d c.args.t) c.if-d-eq0.true ∙ none c.args.t)

pub returns-then-t-d : goal.returns-then-t-d
returns-then-t-d c = sym (cell-is _ _ 0 (omega arith) (omega arith) (omega arith))

pub returns-then-t-d-2 : goal.returns-then-t-d-2
returns-then-t-d-2 c = sym (cell-is _ _ 1 (omega arith) (omega arith) (omega arith))

pub returns : goal.returns
returns c = sym (cell-far _ _ (omega arith) (omega arith))
