-- What a table of messages needs of the reader's definitions: an accepted message's length, number and SIN, and tests behind the reader's own.
-- Assumes nothing.
use Prim.Native.Nat.{ℕ, ◌≤◌, ◌<◌}
use native.Mathlib.Omega.{arith}
use mathlib.Core.Path.{◌≡◌, sym, ◌∙◌}
use mathlib.Core.Bool.{cond}
use mathlib.Core.List.{List, ◌++◌}
use lib.Dec.{eqb}
use lib.ListN.{length}
use Rattle.arith.specs.First.{Test, first}
use Rattle.arith.proofs.First.{first-append}
use Rattle.layout.specs.Layout.{total}
use Rattle.field.proofs.Bit.{field_lt}
use Rattle.layout.proofs.Round.{accepted}
use Rattle.layout_tables.specs.Layouts.{layout_of}
use Rattle.message_rows.specs.Message.{number_of, source_count, target_count, layout, tests, refusal, sin_bit, sin_of}
use Rattle.message_rows.proofs.Head.{head_of, head_passed, accepted-head, source-lt, target-lt}
use Rattle.layout_tables.proofs.Length.{by_number, total-1021, total-1022, total-1023, total-1024, total-1025, total-1026, total-1027}

-- the longest layout is that of 1022 with names of 31 characters
abbrev Most : ℕ → ℕ → ℕ → Type 0
Most n m k = total (layout_of k n m) ≤ 1013

total-limit : (s : List ℕ) → 1021 ≤ number_of s → number_of s ≤ 1027 → total (layout s) ≤ 1013
unfolding layout layout_of
total-limit s lo hi =
    let n : ℕ = source_count s in
    let m : ℕ = target_count s in
    let a : n < 32 = source-lt s in
    let b : m < 32 = target-lt s in
    by_number (Most n m) (number_of s) lo hi
    (omega (arith, total-1021 n m)) (omega (arith, total-1022 n m))
    (omega (arith, total-1023)) (omega (arith, total-1024)) (omega (arith, total-1025)) (omega (arith, total-1026)) (omega (arith, total-1027))

pub accepted-size : (m : List ℕ) → refusal m ≡ 0 → (2 ≤ length m) × (length m ≤ 127)
accepted-size m e =
    let h = accepted-head m e in
    let k = head_of m h in
    let a = accepted (layout m) m (sym (head_passed m h) ∙ e) in
    (k.long, omega (arith, a.sized, total-limit m k.low k.high))

pub sin-most : (m : List ℕ) → sin_of m < 256
sin-most m = field_lt m (sin_bit m) 8

-- the reader's tests, and others behind them
pub first-behind : (m : List ℕ) (rest : List Test) → first (tests m ++ rest) ≡ cond (eqb (refusal m) 0) (first rest) (refusal m)
unfolding refusal
first-behind m rest = first-append (tests m) rest tt
