-- `grid_fields::node_at` meets its contract.
-- Assumes nothing.
use mathlib.Core.Path.{sym, ap, ◌∙◌}
use Prim.Native.Nat.{ℕ, ◌+◌, ◌*◌, min}
use native.Mathlib.Omega.{arith}
use borrow.Author.Tests.{le-ltb}
use Rattle.field.specs.Inner.{signed_at}
use Rattle.grid_fields.specs.Inner.{node_says}
use Rattle.grid_fields.proofs.Pairs.{first-most, node-at-bit}
use Rattle.grid_fields.proofs.node_at.Goals as goal

pub returns-then-node-gt15 : goal.returns-then-node-gt15
unfolding node_says
returns-then-node-gt15 c = let a = c.args in rw (le-ltb a.node 16 (omega (arith, c.if-node-gt15.true)))

pub node_bit-requires : goal.node_bit-requires
node_bit-requires c = let s = c.args.s.now in
    (omega (arith, c.first_bit.ensures, first-most s), omega (arith, c.if-node-gt15.false))

pub returns : goal.returns
returns c = let a = c.args in
    let s = a.s.now in
    c.signed_at.ensures
    ∙ ap (λ (p : ℕ). signed_at s p 9) (c.node_bit.ensures ∙ ap (λ (p : ℕ). p + 9 * (3 * a.node + min a.component 2)) c.first_bit.ensures)
    ∙ sym (node-at-bit s a.node a.component (omega (arith, c.if-node-gt15.false)))
