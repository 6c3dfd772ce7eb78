-- `grid_fields::nine_bits` meets its contract.
-- Assumes nothing.
use Rattle.std.proofs.Common.{Some}
use mathlib.Core.Path.{sym, ap, ◌∙◌, subst}
use Prim.Native.Nat.{ℕ, ◌/◌, ◌%◌, ◌^◌, ◌<◌}
use native.Mathlib.Omega.{arith}
use lib.IntN.{ℤ}
use borrow.Author.Tests.{eq-eqb, ne_eqb}
use mir.Syntax.{w64}
use mir.Val.{SFits, to_z, of_z}
use mir.ValLaws.{to_z-of_z}
use Rattle.field.specs.Field.{signed_of, twos}
use Rattle.field.proofs.Sign.{twos-moved, twos-fits}
use Rattle.grid_fields.proofs.nine_bits.Goals as goal

pub returns-then-u-eq256 : goal.returns-then-u-eq256
unfolding signed_of
returns-then-u-eq256 c = let a = c.args in rw (eq-eqb (a.x / a.below % 512) 256 c.if-u-eq256.true)

pub overflow_sub-result : goal.overflow_sub-result
overflow_sub-result c = let a = c.args in
    let u : ℕ = a.x / a.below % 512 in
    let l : u < 2 ^ 9 = omega arith in
    subst (SFits w64) (sym (twos-moved 9 u (omega arith) l)) (twos-fits 9 u (omega arith) l)

pub returns : goal.returns
unfolding signed_of
returns c = let a = c.args in
    let u : ℕ = a.x / a.below % 512 in
    let l : u < 2 ^ 9 = omega arith in
    rw (ne_eqb (a.x / a.below % 512) 256 c.if-u-eq256.false)
    (ap Some (ap (λ (z : ℤ). to_z w64 (of_z w64 z)) (twos-moved 9 u (omega arith) l) ∙ to_z-of_z w64 (twos 9 u) (twos-fits 9 u (omega arith) l)))
