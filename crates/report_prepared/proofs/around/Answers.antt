-- `report_prepared::around` meets its contract: no operation overflows.
-- Assumes nothing.
use Prim.Native.Nat.{◌+◌, ◌*◌, ◌≤◌}
use lib.IntN.{ℤ}
use native.Mathlib.Nat.{mul-le-mul}
use native.Mathlib.Omega.{arith}
use Rattle.arith.proofs.Machine.{Num, arg, cast, add, sub, fits, is-back}
use Rattle.grid_place.specs.declared.Located.{Located}
use Rattle.report_prepared.specs.Private.{Near}
use Rattle.report_prepared.proofs.around.Goals as goal

module _ {q : Located} {n e : ℤ} (near : Near q n e) where
  rows : q.row * q.height ≤ 81900000
  rows = mul-le-mul near.cell.0 near.sizes.0

  columns : q.column * q.width ≤ 81900000
  columns = mul-le-mul near.cell.1 near.sizes.1

  abbrev up : Num
  up = cast (q.row * q.height + q.north) 122850000 (omega (arith, rows, near.steps.0, near.sizes.0)) tt

  abbrev right : Num
  right = cast (q.column * q.width + q.east) 122850000 (omega (arith, columns, near.steps.1, near.sizes.1)) tt

  abbrev south : Num
  south = sub (arg n 1000000000000 near.north tt) up tt

  abbrev west : Num
  west = sub (arg e 1000000000000 near.east tt) right tt

  abbrev north : Num
  north = add south (cast (3 * q.height) 122850000 (omega (arith, near.sizes.0)) tt) tt

  abbrev east : Num
  east = add west (cast (3 * q.width) 122850000 (omega (arith, near.sizes.1)) tt) tt

pub returns : goal.returns
returns c =
    (λ i. record {
      south = (south c.requires).held i;
      north = (north c.requires).held i;
      west = (west c.requires).held i;
      east = (east c.requires).held i;
      height = c.args.q.height;
      width = c.args.q.width;
      mean = is-back c.ranges.mean i;
      factor = c.args.factor;
    })

pub overflow_mul-south : goal.overflow_mul-south
overflow_mul-south c = record { fits = omega (arith, rows c.requires) }

pub overflow_add-south : goal.overflow_add-south
overflow_add-south c = record { fits = omega (arith, (up c.requires).le) }

pub overflow_cast-south : goal.overflow_cast-south
overflow_cast-south c = (up c.requires).fit

pub overflow_sub-south : goal.overflow_sub-south
overflow_sub-south c = fits (south c.requires)

pub overflow_mul-west : goal.overflow_mul-west
overflow_mul-west c = record { fits = omega (arith, columns c.requires) }

pub overflow_add-west : goal.overflow_add-west
overflow_add-west c = record { fits = omega (arith, (right c.requires).le) }

pub overflow_cast-west : goal.overflow_cast-west
overflow_cast-west c = (right c.requires).fit

pub overflow_sub-west : goal.overflow_sub-west
overflow_sub-west c = fits (west c.requires)

pub overflow_add-result : goal.overflow_add-result
overflow_add-result c = fits (north c.requires)

pub overflow_add-result-2 : goal.overflow_add-result-2
overflow_add-result-2 c = fits (east c.requires)
