-- `grid_row_refusals::look_from` meets its contract.
-- Assumes nothing.
use mathlib.Core.Path.{◌≡◌, sym, subst, subst₂}
use Prim.Native.Nat.{◌-◌, ◌*◌}
use native.Mathlib.Omega.{arith}
use borrow.Author.Rules.{rules}
use lib.IntN.{ℤ}
use Rattle.arith.proofs.Machine.{cast, fits, is-back}
use Rattle.grid_row_refusals.specs.Private.{Ready, Looked}
use Rattle.grid_row_refusals.proofs.Rest.{stands, way-most, ready-rest, looked-rest}
use Rattle.grid_row_refusals.proofs.look_from.Goals as goal

pub look-requires : goal.look-requires
look-requires c = let a = c.args in (
  subst₂ (λ (x y : ℤ). Ready a.message.now a.f x y a.step (a.count - a.i)) (sym (is-back c.ranges.north)) (sym (stands c.requires.0 a.i c.requires.1).held)
      (ready-rest c.requires.0 a.i c.requires.1),
  omega (arith, c.requires.1),
)

pub returns : goal.returns
returns c = let a = c.args in
    looked-rest
    (subst₂ (λ (x y : ℤ). Looked a.message.now a.component x y a.step 0 (a.count - a.i) c.look.result) (is-back c.ranges.north) (stands c.requires.0 a.i c.requires.1).held
    c.look.ensures)

pub overflow_mul-t : goal.overflow_mul-t
overflow_mul-t c = record { fits = omega (arith, way-most c.requires.0 c.args.i c.requires.1) }

pub overflow_cast-t : goal.overflow_cast-t
overflow_cast-t c = (cast (c.args.i * c.args.step) 2000000000000 (way-most c.requires.0 c.args.i c.requires.1) tt).fit

pub overflow_add-t : goal.overflow_add-t
overflow_add-t c = fits (stands c.requires.0 c.args.i c.requires.1)
