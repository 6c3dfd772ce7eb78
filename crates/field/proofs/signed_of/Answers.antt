-- `field::signed_of` meets its contract.
-- Assumes nothing.
use native.Mathlib.Omega.{arith}
use Prim.Native.Nat.{◌%◌, ◌*◌, ◌^◌}
use mathlib.Core.Path.{◌≡◌}
use mir.Syntax.{w64}
use mir.ValLaws.{to_z-of_z}
use Rattle.std.proofs.lemmas.Nat.{one_shl}
use Rattle.field.proofs.Sign.{twos-moved, twos-fits}
use Rattle.field.proofs.signed_of.Goals as goal

pub returns : goal.returns
returns c = let a = c.args in
    let n : 1 * 2 ^ a.w % 2 ^ 64 ≡ 2 ^ a.w = one_shl a.w 64 (omega arith) in
    rw (n, twos-moved a.w a.u (omega arith) (omega arith)) (to_z-of_z w64 _ (twos-fits a.w a.u (omega arith) (omega arith)))
