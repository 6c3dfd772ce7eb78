-- `field::load_short` meets its contract.
-- Assumes nothing.
use native.Mathlib.Omega.{arith}
use Prim.Native.Nat.{◌+◌, ◌-◌, ◌*◌, ◌%◌, ◌^◌}
use mathlib.Core.Path.{◌≡◌}
use lib.ListN.{length}
use Rattle.std.proofs.lemmas.Nat.{one_shl}
use Rattle.field.proofs.Bit.{field_cut}
use Rattle.field.proofs.load_short.Goals as goal

pub returns : goal.returns
returns c = let a = c.args in
    let m = length a.s.now in
    let n : 1 * 2 ^ a.w % 2 ^ 64 ≡ 2 ^ a.w = one_shl a.w 64 (omega arith) in
    rw (c.few_bytes.ensures, n)
    (field_cut a.s.now 0 (8 * m) a.p a.w (m * 8 - (a.p + a.w)) (omega arith) (omega arith))
