-- `layout_writer::encode` meets its contract: each return is a case of the definition.
-- Assumes nothing.
use Prim.Native.Nat.{◌+◌, ◌/◌}
use mathlib.Core.Path.{sym, ◌∙◌}
use native.Mathlib.Omega.{arith}
use lib.ListN.{length}
use Rattle.layout.specs.Layout.{encode_all, row_of}
use Rattle.layout.proofs.Says.{of-true}
use Rattle.layout.proofs.Loop.{total-most}
use Rattle.layout.proofs.Round.{length-encode_all}
use Rattle.layout.proofs.Answer.{refused-write, done-write}
use Rattle.layout_writer.proofs.Answer.{bits-few, write-many, write-range, write-room, write-none}
use Rattle.layout_writer.proofs.encode.Goals as goal

pub returns-then-layout-gt96 : goal.returns-then-layout-gt96
returns-then-layout-gt96 c = let a = c.args in let p = refused-write _ 4 (encode_all a.layout.now (row_of a.values.now a.present.now)) a.out.now
    (write-many a.layout.now a.values.now a.present.now (length a.out.now) c.if-layout-gt96.true) in record { answer = p.0; output = p.1 }

pub returns-then-not-row_taken : goal.returns-then-not-row_taken
returns-then-not-row_taken c = let a = c.args in let p = refused-write _ 4 (encode_all a.layout.now (row_of a.values.now a.present.now)) a.out.now
    (write-range a.layout.now a.values.now a.present.now (length a.out.now) c.if-layout-gt96.false (sym c.row_taken.ensures ∙ c.if-not-row_taken.true)) in record { answer = p.0; output = p.1 }

pub overflow_add-n : goal.overflow_add-n
overflow_add-n c = let es = c.args.layout.now in
    omega (arith, total-most es, c.bits_of.ensures, bits-few es c.if-layout-gt96.false)

pub returns-then-out-n : goal.returns-then-out-n
returns-then-out-n c = let a = c.args in let p = refused-write _ 5 (encode_all a.layout.now (row_of a.values.now a.present.now)) a.out.now
    (write-room a.layout.now a.values.now a.present.now (length a.out.now) c.if-layout-gt96.false (sym c.row_taken.ensures ∙ c.if-not-row_taken.false)
    (rw (c.bits_of.ensures ∙ bits-few a.layout.now c.if-layout-gt96.false) at c.if-out-n.true)) in record { answer = p.0; output = p.1 }

pub write_message-requires : goal.write_message-requires
write_message-requires c = let n = c.bits_of.ensures ∙ bits-few _ c.if-layout-gt96.false in
    (rw n, (c.if-layout-gt96.false, (c.if-out-n.false, of-true (sym c.row_taken.ensures ∙ c.if-not-row_taken.false))))

pub returns : goal.returns
returns c = let a = c.args in
    let n = c.bits_of.ensures ∙ bits-few a.layout.now c.if-layout-gt96.false in
    let rs = row_of a.values.now a.present.now in
    let d = done-write _ ((c.bits_of.result + 7) / 8) (encode_all a.layout.now rs) a.out.now
    (write-none a.layout.now a.values.now a.present.now (length a.out.now) c.if-layout-gt96.false (sym c.row_taken.ensures ∙ c.if-not-row_taken.false) (rw n at c.if-out-n.false))
    (rw n (sym (length-encode_all a.layout.now rs))) in record { answer = d.0; output = c.write_message.ensures ∙ d.1 }
