-- `message_rows::header_code` meets its contract.
-- Assumes nothing.
use Prim.Native.Nat.{ℕ, ◌+◌, ◌*◌, ◌<◌}
use mathlib.Core.Path.{◌≡◌, sym, ap, ◌∙◌}
use mathlib.Core.List.{List}
use native.Mathlib.Omega.{arith}
use Rattle.arith.proofs.Numbers.{passed}
use Rattle.field.specs.Inner.{field_at}
use Rattle.field.proofs.Place.{field_at-lt}
use Rattle.message_rows.proofs.Head.{number_read, head_of, accepted-head, counted-low, counted-sin}
use Rattle.message_rows.proofs.Sin.{sin-read}
use borrow.Author.Rules.{rules}
use Rattle.message_rows.proofs.header_code.Goals as goal

pub target_of-m-requires : goal.target_of-m-requires
target_of-m-requires c = let s = c.args.s.now in omega (arith, c.source_of-n.ensures, counted-low s c.field_at-number.result 12)

pub check_counted-requires : goal.check_counted-requires
check_counted-requires c = record { number = c.field_at-number.ensures; source = c.source_of-n.ensures; target = c.target_of-m.ensures }

pub sin_bit-requires : goal.sin_bit-requires
sin_bit-requires c = let s = c.args.s.now in
    let k = c.field_at-number.result in
    let n = c.source_of-n.result in
    (omega (arith, c.source_of-n.ensures, counted-low s k 12), omega (arith, c.target_of-m.ensures, counted-low s k (17 + 8 * n)))

pub overflow_mul-result : goal.overflow_mul-result
overflow_mul-result c = let s = c.args.s.now in omega (arith, c.field_at-number.ensures, field_at-lt s 0 12)

pub overflow_add-result : goal.overflow_add-result
overflow_add-result c = let s = c.args.s.now in omega (arith, c.field_at-number.ensures, field_at-lt s 0 12, c.field_at.ensures, field_at-lt s c.sin_bit.result 8)

pub overflow_mul-result-2 : goal.overflow_mul-result-2
overflow_mul-result-2 c = let s = c.args.s.now in omega (arith, c.field_at-number.ensures, field_at-lt s 0 12, c.field_at.ensures, field_at-lt s c.sin_bit.result 8)

pub returns : goal.returns
returns c = let s = c.args.s.now in
    let e = sym c.check_counted.ensures ∙ passed c.in_default.is in
    let h = accepted-head s e in
    let k = c.field_at-number.ensures in
    let p = counted-sin s h (record { number = k; source = c.source_of-n.ensures; target = c.target_of-m.ensures }) in
    let n = k ∙ number_read s (head_of s h).long in
    let u = c.field_at.ensures ∙ ap (λ p. field_at s p 8) (c.sin_bit.ensures ∙ p) ∙ sin-read s e in
    record { refused = λ f. absurd (f e); read = λ z. rw (n, u) }
