-- `field::eight_bytes` meets its contract: the bytes are joined one by one.
-- Assumes nothing.
use Prim.Native.Nat.{ℕ, ◌+◌, ◌*◌}
use mathlib.Core.Path.{◌≡◌, sym, ◌∙◌}
use mathlib.Core.List.{List}
use native.Mathlib.Omega.{arith}
use lib.ListN.{get_or}
use Rattle.field.specs.Field.{field}
use Rattle.field.proofs.Bit.{Bytes, byte-field, bytes-join}
use Rattle.field.proofs.eight_bytes.Goals as goal

next : (s : List ℕ) (q k : ℕ) → Bytes s → field s (8 * q) (8 * (k + 1)) ≡ field s (8 * q) (8 * k) * 256 + get_or s (q + k) 0
next s q k h = sym (bytes-join s q k 1) ∙ rw (byte-field s (q + k) (h (q + k)))

pub returns : goal.returns
returns c = let s = c.args.s.now in
    let q = c.args.q in
    let h : Bytes s = λ i. omega (arith, c.type_inv.s i) in
    c.from_be_bytes.ensures ∙ omega (arith, byte-field s q (h q), next s q 1 h, next s q 2 h, next s q 3 h, next s q 4 h, next s q 5 h, next s q 6 h, next s q 7 h)
