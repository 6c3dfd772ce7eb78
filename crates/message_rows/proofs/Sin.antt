-- The header: the system identification number stands within the message, and each answer is the definition's.
-- Assumes nothing.
use Prim.Native.Nat.{ℕ, ◌+◌, ◌*◌, ◌≤◌}
use native.Mathlib.Omega.{arith}
use mathlib.Core.Path.{◌≡◌, sym, ◌∙◌}
use mathlib.Core.Bool.{cond}
use mathlib.Core.List.{List}
use lib.ListN.{length}
use borrow.Author.Tests.{ne_eqb}
use Rattle.field.specs.Inner.{field_at}
use Rattle.field.proofs.Place.{field-inside}
use Rattle.layout.specs.Layout.{total}
use Rattle.layout.proofs.Round.{total-most, accepted}
use Rattle.layout_tables.specs.Layouts.{named, layout_of}
use Rattle.layout_tables.proofs.Length.{by_number, total-1021, total-1022, total-1023, total-1024, total-1025, total-1026, total-1027}
use Rattle.message_rows.specs.declared.Header.{Header}
use Rattle.message_rows.specs.Message.{number_of, source_count, target_count, layout, refusal, header, sin_bit, sin_of}
use Rattle.message_rows.proofs.Head.{head_of, head_passed, accepted-head, layout-most}

pub header_refused : (s : List ℕ) (r : ℕ) → r ≡ refusal s → (r ≡ 0 → ⊥) → ◌≡◌ {A = Header} (record { refusal = r; number = 0; sin = 0; length = 0 }) (header s)
unfolding header
header_refused s r e f = rw (← e, ne_eqb r 0 f)

pub header_read : (s : List ℕ) {n k : ℕ} → refusal s ≡ 0 → n ≡ number_of s → k ≡ sin_of s
    → ◌≡◌ {A = Header} (record { refusal = 0; number = n; sin = k; length = length s }) (header s)
unfolding header
header_read s e p q = rw (e, p, q)

-- DF147 ends before the fields do
abbrev SinInside : ℕ → ℕ → ℕ → Type 0
SinInside n m k = cond (named k) (22 + 8 * (n + m)) 12 + 8 ≤ total (layout_of k n m)

pub total-least : (s : List ℕ) → 1021 ≤ number_of s → number_of s ≤ 1027 → sin_bit s + 8 ≤ total (layout s)
unfolding layout layout_of
total-least s lo hi =
    let n : ℕ = source_count s in
    let m : ℕ = target_count s in
    by_number (SinInside n m) (number_of s) lo hi
    (omega (arith, total-1021 n m)) (omega (arith, total-1022 n m))
    (omega (arith, total-1023)) (omega (arith, total-1024)) (omega (arith, total-1025)) (omega (arith, total-1026)) (omega (arith, total-1027))

-- DF147 ends before the message does
pub sin-read : (s : List ℕ) → refusal s ≡ 0 → field_at s (sin_bit s) 8 ≡ sin_of s
sin-read s e =
    let h = accepted-head s e in
    let a = accepted (layout s) s (sym (head_passed s h) ∙ e) in
    let k = head_of s h in
    let t = total-least s k.low k.high in
    field-inside s (sin_bit s) 8 (omega arith) (omega (arith, t, total-most (layout s), layout-most s)) (omega (arith, t, a.sized))
