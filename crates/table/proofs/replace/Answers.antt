-- `table::replace` meets its contract: the slot is filled, and the rest of the table kept.
-- Assumes nothing.
use Prim.Native.Nat.{◌+◌, ◌-◌, ◌*◌}
use native.Mathlib.Omega.{arith}
use mathlib.Core.Path.{ap, ◌∙◌}
use mathlib.Core.List.{◌++◌}
use lib.ListN.{take}
use borrow.Rule.Slice.PartMut.{put_mid, Post-is}
use Rattle.table_slots.specs.Slots.{slot_size, slot_of}
use Rattle.table.specs.Table.{put}
use Rattle.table.proofs.replace.Goals as goal

pub returns : goal.returns
unfolding put
returns c = let t = c.args.table.now in
    let i = c.args.i in
    let o = c.args.owner in
    let m = c.args.m.now in
    ap (λ z. put_mid (i * slot_size) (i * slot_size + slot_size - i * slot_size) t z) c.fill.ensures
    ∙ ap (λ z. take (i * slot_size) t ++ (slot_of o m ++ z)) (Post-is (i * slot_size) (i * slot_size + slot_size) t (omega arith))
