-- `message_rows::read_header` meets its contract: the parts of the header's number.
-- Assumes nothing.
use Prim.Native.Nat.{ℕ, ◌/◌, ◌%◌, ◌*◌, ◌+◌, ◌<◌}
use mathlib.Core.Path.{◌≡◌}
use mathlib.Core.List.{List}
use native.Mathlib.Omega.{arith}
use native.Mathlib.Decide.{ℕ_discrete}
use Rattle.field.proofs.Bit.{field_lt}
use Rattle.message_rows.specs.Message.{refusal, number_of, sin_of, sin_bit}
use Rattle.message_rows.specs.Private.{Coded}
use Rattle.message_rows.proofs.Sin.{header_refused, header_read}
use borrow.Author.Rules.{rules}
use Rattle.message_rows.proofs.read_header.Goals as goal

module _ (s : List ℕ) (r : ℕ) (c : Coded s r) where
  refused-part : (r % 256 ≡ 0 → ⊥) → r % 256 ≡ refusal s
  refused-part f = by (ℕ_discrete (refusal s) 0)
    where
      by : Dec (refusal s ≡ 0) → r % 256 ≡ refusal s
      by (yes z) = absurd (f (omega (arith, c.read z)))
      by (no n) = let k = c.refused n in omega (arith, k.0, k.1)

  accepted-part : r % 256 ≡ 0 → refusal s ≡ 0
  accepted-part e = by (ℕ_discrete (refusal s) 0)
    where
      by : Dec (refusal s ≡ 0) → refusal s ≡ 0
      by (yes z) = z
      by (no n) = let k = c.refused n in omega (arith, k.0, k.1)

  parts : refusal s ≡ 0 → (r / 65536 ≡ number_of s) × (r / 256 % 256 ≡ sin_of s)
  parts e =
      let k = c.read e in
      let l = field_lt s (sin_bit s) 8 in
      (omega arith, omega arith)

pub returns-then-refusal-ne0 : goal.returns-then-refusal-ne0
returns-then-refusal-ne0 c = let s = c.args.s.now in header_refused s _ (refused-part s _ c.header_code-code.ensures c.if-refusal-ne0.true) c.if-refusal-ne0.true

pub overflow_cast-result : goal.overflow_cast-result
overflow_cast-result c = let s = c.args.s.now in
    let k = c.header_code-code.ensures in
    let p = parts s _ k (accepted-part s _ k c.if-refusal-ne0.false) in
    omega (arith, p.0, field_lt s 0 12)

pub returns : goal.returns
returns c = let s = c.args.s.now in
    let k = c.header_code-code.ensures in
    let e = accepted-part s _ k c.if-refusal-ne0.false in
    let p = parts s _ k e in
    header_read s e p.0 p.1
