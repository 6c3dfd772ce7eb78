-- `field_writer::put_bits` meets its contract.
-- Assumes nothing.
use native.Mathlib.Omega.{arith}
use mathlib.Core.Path.{◌≡◌}
use Prim.Native.Nat.{◌+◌, ◌*◌, ◌%◌, ◌^◌}
use borrow.Author.Rules.{rules}
use Rattle.std.proofs.lemmas.Nat.{one_shl}
use Rattle.field.specs.Field.{put_bits}
use Rattle.field_writer.proofs.Put.{put-parts}
use Rattle.field_writer.proofs.put_bits.Goals as goal

pub overflow_cast-result : goal.overflow_cast-result
overflow_cast-result c = let a = c.args in
    let n : 1 * 2 ^ a.m % 2 ^ 64 ≡ 2 ^ a.m = one_shl a.m 64 (omega arith) in
    let d : 1 * 2 ^ a.j % 2 ^ 64 ≡ 2 ^ a.j = one_shl a.j 64 (omega arith) in
    let e : 1 * 2 ^ (a.m + a.j) % 2 ^ 64 ≡ 2 ^ (a.m + a.j) = one_shl (a.m + a.j) 64 (omega arith) in
    rw (n, d, e) (omega (arith, put-parts a.b a.j a.m a.x (search rules) (search rules) (search rules)))

pub returns : goal.returns
unfolding put_bits
returns c = let a = c.args in
    let n : 1 * 2 ^ a.m % 2 ^ 64 ≡ 2 ^ a.m = one_shl a.m 64 (omega arith) in
    let d : 1 * 2 ^ a.j % 2 ^ 64 ≡ 2 ^ a.j = one_shl a.j 64 (omega arith) in
    let e : 1 * 2 ^ (a.m + a.j) % 2 ^ 64 ≡ 2 ^ (a.m + a.j) = one_shl (a.m + a.j) 64 (omega arith) in
    rw (n, d, e)
