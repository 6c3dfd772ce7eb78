-- `grid_cell::with_sign` meets its contract.
-- Assumes nothing.
use mathlib.Core.Path.{◌∙◌}
use Prim.Native.Nat.{ℕ}
use native.Mathlib.Omega.{arith}
use lib.IntN.{ℤ, pos}
use borrow.Author.Rules.{rules}
use Rattle.arith.proofs.Int.{ring, at, nat, minus, ◌⊟◌}
use Rattle.arith.proofs.Machine.{Num, any, cast, lit, sub, fits, test}
use Rattle.grid_cell.proofs.with_sign.Goals as goal

pub returns-then-z-lt0 : goal.returns-then-z-lt0
returns-then-z-lt0 c = let size : Num = cast c.args.n 4611686018427387904 c.requires tt in
    let opposite : Num = sub (lit 0 tt) size tt in
    let given : Num = any c.args.z c.ranges.z in
    rw (test given (lit 0 tt) c.if-z-lt0.true) (opposite.held ∙ ring (nat 0 ⊟ nat c.args.n) (minus (nat c.args.n)) (omega arith))

pub returns : goal.returns
returns c = let size : Num = cast c.args.n 4611686018427387904 c.requires tt in
    let given : Num = any c.args.z c.ranges.z in
    rw (test given (lit 0 tt) c.if-z-lt0.false) size.held

pub overflow_sub-result : goal.overflow_sub-result
overflow_sub-result c =
    let size : Num = cast c.args.n 4611686018427387904 c.requires tt in
    let opposite : Num = sub (lit 0 tt) size tt in
    fits opposite
