-- A line that no newline ends fills the window or ends the text.
-- Assumes nothing.
use Prim.Native.Nat.{ℕ, ◌+◌, ◌≤◌, ◌<◌}
use native.Mathlib.Omega.{arith}
use mathlib.Core.Path.{◌≡◌, ap, ◌∙◌}
use mathlib.Core.List.{List, [], ◌++◌}
use mathlib.Core.Logic.{◌⊎◌}
use lib.ListN.{length, take, drop, length-drop}
use lib.Seq.{take_all}
use Rattle.std.proofs.Common.{le_refl}
use Rattle.std.specs.Prelude.{Option, None}
use Rattle.std.specs.Io.KnownBytes.{IsAtEnd, prepend_known}
use Rattle.text_lines.specs.Inner.{line_at}
use Rattle.line_reads.specs.Inner.{ended_by}
use Rattle.line_reads.proofs.Passing.{open_line, starts}
use Rattle.line_reads.proofs.Known.{at_end, full_or_end, no_bytes}

pub last_line : (s : List ℕ) (f : ℕ) (rest : List ℕ) (known : Option (List ℕ)) → f ≡ 0 → (length s < 4096 → IsAtEnd known) → (line_at s f).next ≡ None
    → drop f s ≡ ended_by (take (line_at s f).length (drop (line_at s f).from s)) (line_at s f).next ++ rest
    → (4096 ≤ length (take (line_at s f).length (drop (line_at s f).from s))) ⊎ IsAtEnd (prepend_known rest known)
last_line s f rest known zero full z e =
    let n = (line_at s f).length in
    let text = take n (drop (line_at s f).from s) in
    let long : length s ≤ f + n = open_line s f (length s) (le_refl (length s)) z in
    let whole : text ≡ drop f s = ap (λ j. take n (drop j s)) (starts s f (length s) (le_refl (length s))) ∙ take_all n (drop f s) (omega (arith, length-drop f s)) in
    let size : length text ≡ length s = ap length whole ∙ length-drop f s ∙ omega arith in
    let split : drop f s ≡ text ++ rest = rw z at e in
    let none : rest ≡ [] = no_bytes (drop f s) text rest split (omega (arith, length-drop f s)) in
    full_or_end (length s) (length text) (prepend_known rest known) (omega arith) (λ l. at_end known rest none (full l))
