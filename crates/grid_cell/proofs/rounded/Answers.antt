-- `grid_cell::rounded` meets its contract: quotient and rest, and one comparison that decides the half.
-- Assumes nothing.
use mathlib.Core.Path.{◌≡◌, sym}
use Prim.Native.Nat.{◌+◌, ◌*◌, ◌/◌, ◌%◌, ◌≤◌, ◌<◌}
use native.Mathlib.Omega.{arith}
use native.Mathlib.Nat.{mod-lt, div-le_self}
use borrow.Author.Rules.{rules}
use Rattle.grid_cell.proofs.Sum.{half_up_lem, half_down}
use Rattle.grid_cell.proofs.rounded.Goals as goal

pub overflow_mul-rest : goal.overflow_mul-rest
overflow_mul-rest c = let rest-less : c.args.size % c.args.area < c.args.area = mod-lt c.args.size c.requires.1 in
    record { fits = omega (arith, rest-less, c.requires.2) }

pub overflow_add-result : goal.overflow_add-result
overflow_add-result c = let whole-most : c.args.size / c.args.area ≤ 2560 * 1676902500000000 = omega (arith, div-le_self c.args.size c.args.area, c.requires.0) in
    record { fits = omega (arith, whole-most) }

pub returns-then-area-rest : goal.returns-then-area-rest
returns-then-area-rest c = let whole-most : c.args.size / c.args.area ≤ 2560 * 1676902500000000 = omega (arith, div-le_self c.args.size c.args.area, c.requires.0) in
    (sym (half_up_lem c.args.size c.args.area c.requires.1 (omega (arith, c.if-area-rest.true))), omega (arith, whole-most))

pub returns : goal.returns
returns c = let whole-most : c.args.size / c.args.area ≤ 2560 * 1676902500000000 = omega (arith, div-le_self c.args.size c.args.area, c.requires.0) in
    (sym (half_down c.args.size c.args.area c.requires.1 (omega (arith, c.if-area-rest.false))), omega (arith, whole-most))
