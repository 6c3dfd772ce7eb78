-- `field::reading_of` meets its contract.
-- Assumes nothing.
use Rattle.std.proofs.Common.{Some}
use native.Mathlib.Omega.{arith}
use Prim.Native.Nat.{◌%◌, ◌*◌, ◌^◌}
use mathlib.Core.Path.{◌≡◌, ap, ◌∙◌}
use borrow.Author.Tests.{eq-eqb, ne_eqb}
use mir.Syntax.{w64}
use mir.ValLaws.{to_z-of_z}
use Rattle.std.proofs.lemmas.Nat.{one_shl}
use Rattle.field.specs.Field.{signed_of, none_of}
use Rattle.field.proofs.reading_of.Goals as goal

pub returns-then-u-w : goal.returns-then-u-w
unfolding signed_of
returns-then-u-w c = let a = c.args in
    let n : 1 * 2 ^ a.w % 2 ^ 64 ≡ 2 ^ a.w = one_shl a.w 64 (omega arith) in
    rw (eq-eqb a.u (none_of a.w) (rw n at c.if-u-w.true))

pub returns : goal.returns
unfolding signed_of
returns c = let a = c.args in
    let n : 1 * 2 ^ a.w % 2 ^ 64 ≡ 2 ^ a.w = one_shl a.w 64 (omega arith) in
    rw (ne_eqb a.u (none_of a.w) (rw n at c.if-u-w.false))
    (ap Some (to_z-of_z w64 c.signed_of.result (record { sfits = c.signed_of.type_inv }) ∙ c.signed_of.ensures))
