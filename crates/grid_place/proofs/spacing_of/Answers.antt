-- `grid_place::spacing_of` meets its contract.
-- Assumes nothing.
use mathlib.Core.Path.{◌≡◌, ap, ◌∙◌}
use Prim.Native.Nat.{◌*◌}
use native.Mathlib.Nat.{mul-le-mul}
use native.Mathlib.Omega.{arith}
use lib.IntN.{ℤ, pos, nat_abs}
use mir.Syntax.{w64}
use mir.Val.{to_z, of_z}
use Rattle.arith.specs.Whole.{natural}
use Rattle.arith.proofs.Machine.{is-back}
use Rattle.grid_place.proofs.spacing_of.Goals as goal

pub overflow_cast-result : goal.overflow_cast-result
overflow_cast-result c = let raw : to_z w64 (of_z w64 c.args.raw) ≡ pos (natural c.args.raw) = is-back c.ranges.raw ∙ c.requires.0 in
    rw raw (tt, omega (arith, c.requires.1))

pub overflow_mul-result : goal.overflow_mul-result
overflow_mul-result c = let raw : to_z w64 (of_z w64 c.args.raw) ≡ pos (natural c.args.raw) = is-back c.ranges.raw ∙ c.requires.0 in
    rw raw (omega (arith, mul-le-mul c.requires.1 c.requires.2))

pub returns : goal.returns
returns c = let raw : to_z w64 (of_z w64 c.args.raw) ≡ pos (natural c.args.raw) = is-back c.ranges.raw ∙ c.requires.0 in
    ap (λ (z : ℤ). nat_abs z * c.args.steps) raw
