-- `grid_rows::raised` meets its contract.
-- Assumes nothing.
use mathlib.Core.Path.{sym, ap, ◌∙◌}
use Prim.Native.Nat.{◌*◌}
use native.Mathlib.Omega.{arith}
use borrow.Author.Rules.{rules}
use lib.IntN.{ℤ, pos, nat_abs}
use lib.Signed.{◌≤ℤ◌}
use Rattle.arith.proofs.Int.{abs-above}
use Rattle.arith.proofs.Whole.{cast-natural}
use Rattle.arith.proofs.Machine.{Num, arg, cast, add, fits}
use Rattle.grid_rows.proofs.Parts.{raised-above, not-below}
use Rattle.grid_rows.proofs.raised.Goals as goal

pub overflow_cast-result-2 : goal.overflow_cast-result-2
overflow_cast-result-2 c = let t : Num = add (arg c.args.sum (2560 * 1676902500000000) (omega (arith, c.requires.0, c.requires.1)) tt)
    (cast (2560 * c.args.area) (2560 * 1676902500000000) (omega (arith, c.requires.1)) tt) tt in
    let above : pos 0 ≤ℤ t.z = raised-above c.args.sum (2560 * c.args.area) c.requires.0 in
    let e = cast-natural t.z t.fit.sfits (not-below above) in
    rw t.held (e.0, record { fits = e.1 })

pub returns : goal.returns
returns c = let t : Num = add (arg c.args.sum (2560 * 1676902500000000) (omega (arith, c.requires.0, c.requires.1)) tt)
    (cast (2560 * c.args.area) (2560 * 1676902500000000) (omega (arith, c.requires.1)) tt) tt in
    let above : pos 0 ≤ℤ t.z = raised-above c.args.sum (2560 * c.args.area) c.requires.0 in
    ap (λ (z : ℤ). pos (nat_abs z)) t.held ∙ sym (abs-above above)

pub overflow_add-result : goal.overflow_add-result
overflow_add-result c =
    let t : Num = add (arg c.args.sum (2560 * 1676902500000000) (omega (arith, c.requires.0, c.requires.1)) tt)
    (cast (2560 * c.args.area) (2560 * 1676902500000000) (omega (arith, c.requires.1)) tt) tt in
    fits t
