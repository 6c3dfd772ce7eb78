-- What a writer of a layout leaves, and its answers, one law for each way out.
-- Assumes nothing.
use Rattle.std.proofs.Common.{Option}
use mathlib.Core.Path.{◌≡◌, refl}
use mathlib.Core.List.{List, [], ◌∷◌, ◌++◌}
use mathlib.Core.Bool.{true, false}
use Prim.Native.Nat.{ℕ, ◌+◌, ◌*◌, ◌≤◌, ◌<◌}
use native.Mathlib.Omega.{arith}
use lib.IntN.{ℤ}
use lib.ListN.{length}
use borrow.Author.Tests.{lt-ltb, le-ltb}
use Rattle.field.specs.Field.{pattern_of}
use Rattle.field.proofs.Bit.{length-set_field}
use Rattle.field.proofs.Bytes.{set_field-left}
use Rattle.layout.specs.Layout.{width, total, size, encode_into, blank, encode_all, row_takes}
use Rattle.layout.specs.Inner.{bits_of, encode_refusal}
use Rattle.layout.proofs.Round.{length-blank}

-- bytes behind the message stay
encode-left : (es : List ℕ) (rs : List (Option ℤ)) (p : ℕ) (a b : List ℕ) → p + total es ≤ 8 * length a → encode_into es rs p (a ++ b) ≡ encode_into es rs p a ++ b
unfolding encode_into total
encode-left [] rs p a b h = refl
encode-left (e ∷ es) [] p a b h = refl
encode-left (e ∷ es) (r ∷ rs) p a b h =
    rw (set_field-left a b p (width e) (pattern_of (width e) r) (omega arith))
    (encode-left es rs (p + width e) _ b (omega (arith, length-set_field a p (width e) (pattern_of (width e) r))))

-- what a writer leaves that clears the first bytes and writes the fields
pub message-left : (es : List ℕ) (rs : List (Option ℤ)) (n : ℕ) (b : List ℕ) → n ≡ size es → encode_into es rs 0 (blank n ++ b) ≡ encode_all es rs ++ b
unfolding encode_all
message-left es rs n b e = rw e (encode-left es rs 0 (blank (size es)) b (omega (arith, length-blank (size es))))

-- the bits of a layout that is not too long
pub bits-few : (es : List ℕ) → length es ≤ 96 → bits_of es ≡ total es
unfolding bits_of
bits-few es h = rw (le-ltb 96 (length es) h)

-- ---- the answers
module _ (es : List ℕ) (zs : List ℤ) (bs : List ℕ) (n : ℕ) where
  pub write-many : 96 < length es → encode_refusal es zs bs n ≡ 5
  unfolding encode_refusal
  write-many h = rw (lt-ltb 96 (length es) h)

  module _ (few : length es ≤ 96) where
    pub write-range : row_takes es zs bs ≡ false → encode_refusal es zs bs n ≡ 5
    unfolding encode_refusal
    write-range t = rw (le-ltb 96 (length es) few, t)

    module _ (t : row_takes es zs bs ≡ true) where
      pub write-room : n < size es → encode_refusal es zs bs n ≡ 6
      unfolding encode_refusal
      write-room h = rw (le-ltb 96 (length es) few, t, lt-ltb n (size es) h)

      pub write-none : size es ≤ n → encode_refusal es zs bs n ≡ 0
      unfolding encode_refusal
      write-none h = rw (le-ltb 96 (length es) few, t, le-ltb n (size es) h)
