-- `table_slots::slot_mark` meets its contract: each return is a case of what a well-formed slot is.
-- Assumes nothing.
use Prim.Native.Nat.{suc, ◌+◌}
use native.Mathlib.Omega.{arith}
use mathlib.Core.Path.{sym, ap, ◌∙◌}
use lib.ListN.{get_or}
use Rattle.message_rows.specs.Message.{refusal, header}
use Rattle.table_slots.specs.Slots.{key, joined, all_zero, held}
use Rattle.table_slots.proofs.Slot.{part_held, part-rest, tag_free, tag-used, well-free, ill-owner, ill-long, ill-rest, ill-refused, well-used}
use Rattle.table_slots.proofs.Marks.{mark-well, mark-ill, header-refusal, header-tag}
use Rattle.table_slots.proofs.slot_mark.Goals as goal

pub overflow_cast-n : goal.overflow_cast-n
overflow_cast-n c = omega (arith, c.type_inv.s 1)

pub returns-then-zeros : goal.returns-then-zeros
returns-then-zeros c = let s = c.args.s.now in
    let h = c.if-o-eq0.true in
    sym (mark-well s (sym (well-free s h) ∙ sym c.zeros.ensures ∙ c.if-zeros.true) ∙ tag_free s h)

pub returns-then-o-eq0 : goal.returns-then-o-eq0
returns-then-o-eq0 c = let s = c.args.s.now in
    sym (mark-ill s (sym (well-free s c.if-o-eq0.true) ∙ sym c.zeros.ensures ∙ c.if-zeros.false))

pub returns-then-not-is_owner : goal.returns-then-not-is_owner
returns-then-not-is_owner c = let s = c.args.s.now in
    sym (mark-ill s (ill-owner s c.if-o-eq0.false (sym c.is_owner.ensures ∙ c.if-not-is_owner.true)))

pub returns-then-n-gt-MESSAGE_SIZE : goal.returns-then-n-gt-MESSAGE_SIZE
returns-then-n-gt-MESSAGE_SIZE c = let s = c.args.s.now in
    sym (mark-ill s (ill-long s c.if-o-eq0.false (omega arith)))

pub returns-then-not-zeros : goal.returns-then-not-zeros
returns-then-not-zeros c = let s = c.args.s.now in
    let z = ap all_zero (sym (part-rest s (2 + get_or s 1 0) c.requires)) ∙ sym c.zeros-2.ensures ∙ c.if-not-zeros.true in
    sym (mark-ill s (ill-rest s c.if-o-eq0.false z))

pub returns-then-h-ne0 : goal.returns-then-h-ne0
returns-then-h-ne0 c = let s = c.args.s.now in
    let e = header-refusal _ _ c.read_header-h.ensures ∙ ap refusal (part_held s) in
    sym (mark-ill s (ill-refused s c.if-o-eq0.false (λ q. c.if-h-ne0.true (e ∙ q))))

pub returns : goal.returns
returns c = let s = c.args.s.now in
    let h = c.read_header-h.result in
    let e = c.read_header-h.ensures ∙ ap header (part_held s) in
    let a = sym (header-refusal (held s) h e) ∙ c.if-h-ne0.false in
    let o = sym c.is_owner.ensures ∙ c.if-not-is_owner.false in
    let z = ap all_zero (sym (part-rest s (2 + get_or s 1 0) c.requires)) ∙ sym c.zeros-2.ensures ∙ c.if-not-zeros.false in
    let w = sym (well-used s c.requires o c.if-n-gt-MESSAGE_SIZE.false a) ∙ z in
    c.tag_of.ensures ∙ ap (λ g. suc (joined (get_or s 0 0) (key h.sin g))) c.group_of.ensures ∙ header-tag (get_or s 0 0) (held s) h e a
    ∙ sym (mark-well s w ∙ tag-used s c.if-o-eq0.false)
