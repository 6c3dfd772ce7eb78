-- The ways out of `write_heights`.
-- Assumes nothing.
use mathlib.Core.Path.{◌≡◌, sym, ap, ◌∙◌}
use mathlib.Core.Bool.{true}
use mathlib.Core.List.{List, ◌++◌}
use Prim.Native.Nat.{ℕ}
use borrow.Author.Tests.{eq-eqb}
use lib.IntN.{ℤ}
use lib.ListN.{length}
use Rattle.arith.specs.First.{Test, first}
use Rattle.arith.proofs.First.{stops, goes_on}
use Rattle.layout.specs.Layout.{row_of}
use Rattle.message_rows.specs.Message.{message, kind_write_refusal}
use Rattle.heights_mean.specs.Means.{smallest_mean}
use Rattle.std.specs.Prelude.{Option, Some, None}
use Rattle.heights.specs.Heights.{height_values, height_present, count_tests, record_tests, mean_tests, heights_refusal, heights_message}

module _ (z : List ℤ) (b : List ℕ) (wanted : List ℤ) (n : ℕ) (p : length z ≡ 64) (q : length b ≡ 64) (w : length wanted ≡ 16) where
  abbrev early : List Test
  early = count_tests z b wanted ++ record_tests z b

  record_is : first (record_tests z b) ≡ first early
  record_is = rw (eq-eqb (length z) 64 p, eq-eqb (length b) 64 q, eq-eqb (length wanted) 16 w)

  pub record-out : {r : ℕ} → r ≡ first (record_tests z b) → (r ≡ 0 → ⊥) → r ≡ heights_refusal z b wanted n
  unfolding heights_refusal
  record-out e h = stops early (mean_tests z b wanted n (smallest_mean wanted)) tt (e ∙ record_is) h

  module _ (e : first (record_tests z b) ≡ 0) where
    pub behind : (m : Option ℤ) → smallest_mean wanted ≡ m → first (mean_tests z b wanted n m) ≡ heights_refusal z b wanted n
    unfolding heights_refusal
    behind m f =
        ap (λ (k : Option ℤ). first (mean_tests z b wanted n k)) (sym f)
        ∙ goes_on early (mean_tests z b wanted n (smallest_mean wanted)) tt (sym record_is ∙ e)

    pub mean-out : smallest_mean wanted ≡ None → 23 ≡ heights_refusal z b wanted n
    mean-out f = behind None f

    -- the row that is written is refused as the writer of one kind refuses it
    pub written_out : (m : ℤ) → smallest_mean wanted ≡ Some m
        → kind_write_refusal 1023 1023 true (height_values z wanted m) (height_present b) n ≡ heights_refusal z b wanted n
    unfolding kind_write_refusal
    written_out m f = behind (Some m) f

pub message-is : (z : List ℤ) (b : List ℕ) (wanted : List ℤ) (m : ℤ) → smallest_mean wanted ≡ Some m
    → message (row_of (height_values z wanted m) (height_present b)) ≡ heights_message z b wanted
unfolding heights_message
message-is z b wanted m f = rw f
