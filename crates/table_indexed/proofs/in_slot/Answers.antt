-- `table_indexed::in_slot` meets its contract: each return is a case of the definition.
-- Assumes nothing.
use Prim.Native.Nat.{◌+◌, ◌*◌}
use native.Mathlib.Omega.{arith}
use mathlib.Core.Path.{◌≡◌, sym, ◌∙◌}
use borrow.Author.Tests.{lt-ltb, le-ltb, eq-eqb, ne_eqb}
use Rattle.table_slots.specs.Slots.{slots, slot_size, slot}
use Rattle.table_slots.specs.Inner.{mark}
use Rattle.table_slots.proofs.Marks.{mark_of}
use Rattle.table.proofs.Calls.{slot_read}
use Rattle.table_indexed.specs.Private.{in_slot}
use Rattle.table_indexed.proofs.in_slot.Goals as goal

pub returns-then-i-ge-SLOTS : goal.returns-then-i-ge-SLOTS
unfolding in_slot
returns-then-i-ge-SLOTS c = rw (le-ltb _ slots c.if-i-ge-SLOTS.true) c.not_found.ensures

pub returns-then-mark_of-g : goal.returns-then-mark_of-g
unfolding in_slot
returns-then-mark_of-g c = let a = c.args in
    let h = c.if-i-ge-SLOTS.false in
    let e = c.mark_of.ensures ∙ mark_of a.table.now c.requires a.i h in
    rw (lt-ltb a.i slots h, ne_eqb (mark (slot a.table.now a.i)) a.g (λ q. c.if-mark_of-g.true (e ∙ q))) c.not_found-then-mark_of-g.ensures

pub overflow_cast-result : goal.overflow_cast-result
overflow_cast-result c = omega (arith, c.type_inv.table (c.args.i * slot_size + 1))

pub returns : goal.returns
unfolding in_slot
returns c = let a = c.args in
    let h = c.if-i-ge-SLOTS.false in
    let e = c.mark_of.ensures ∙ mark_of a.table.now c.requires a.i h in
    let q : a.i * slot_size + 1 + 1 ≡ a.i * slot_size + 2 = omega arith in
    let r = sym (slot_read a.table.now a.i 1 (omega arith)) in
    rw (lt-ltb a.i slots h, eq-eqb (mark (slot a.table.now a.i)) a.g (sym e ∙ c.if-mark_of-g.false))
    (λ k. record { refusal = 0; at = q k; length = r k; probes = a.probes })
