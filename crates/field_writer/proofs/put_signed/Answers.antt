-- `field_writer::put_signed` meets its contract: each return is a case of the definition.
-- Assumes nothing.
use mathlib.Core.Path.{◌≡◌, sym, ap, ◌∙◌}
use native.Mathlib.Omega.{arith}
use Prim.Native.Nat.{◌*◌, ◌%◌, ◌^◌}
use borrow.Author.Rules.{rules}
use mir.Syntax.{w64}
use Rattle.std.proofs.Common.{FitsSigned}
use Rattle.std.proofs.lemmas.Nat.{one_shl}
use lib.IntN.{nat_abs}
use Rattle.field.specs.Inner.{put_signed}
use Rattle.field_writer.proofs.Place.{put-wide, put-value, put-nothing}
use Rattle.field.proofs.Sign.{bits-z}
use Rattle.field_writer.proofs.put_signed.Goals as goal

pub returns-then-w-gt63 : goal.returns-then-w-gt63
returns-then-w-gt63 c = let a = c.args in sym (put-wide a.s.now a.p a.w a.r c.if-w-gt63.true)

pub returns-then-unsigned_abs-h : goal.returns-then-unsigned_abs-h
returns-then-unsigned_abs-h c = let a = c.args in
    let z = c.in-Some.z in
    let f : FitsSigned w64 z = search rules in
    let back = bits-z z f in
    let m = c.unsigned_abs.ensures.value ∙ ap nat_abs back in
    let h : 1 * 2 ^ a.w % 2 ^ 64 ≡ 2 ^ a.w = one_shl a.w 64 (omega arith) in
    rw (c.in-Some.is, put-value a.s.now a.p a.w z (rw (m, h) at c.if-unsigned_abs-h.true))
    (rw (c.pattern_of.ensures, back) at c.put_field.ensures)

pub returns-else-unsigned_abs-h : goal.returns-else-unsigned_abs-h
returns-else-unsigned_abs-h c = let a = c.args in
    let z = c.in-Some.z in
    let f : FitsSigned w64 z = search rules in
    let m = c.unsigned_abs.ensures.value ∙ ap nat_abs (bits-z z f) in
    let h : 1 * 2 ^ a.w % 2 ^ 64 ≡ 2 ^ a.w = one_shl a.w 64 (omega arith) in
    rw c.in-Some.is (sym (put-nothing a.s.now a.p a.w z (rw (m, h) at c.if-unsigned_abs-h.false)))

pub returns-in-None : goal.returns-in-None
unfolding put_signed
returns-in-None c = let a = c.args in
    let h : 1 * 2 ^ a.w % 2 ^ 64 ≡ 2 ^ a.w = one_shl a.w 64 (omega arith) in
    rw c.in-None.is (rw h at c.put_field-in-None.ensures)
