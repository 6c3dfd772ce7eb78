-- What a reader leaves in both buffers where the fields are readable, and where they are not.
-- Assumes nothing.
use mathlib.Core.Path.{◌≡◌, refl}
use mathlib.Core.Bool.{true, false, ◌&&◌}
use mathlib.Core.List.{List, ◌++◌, map}
use Prim.Native.Nat.{ℕ, ◌+◌, ◌*◌, ◌≤◌, ◌<◌}
use lib.Dec.{leb}
use lib.IntN.{ℤ}
use lib.ListN.{length, drop}
use borrow.Author.Tests.{le-leb, lt-leb, leb-true}
use Rattle.arith.proofs.Tests.{both_first, both-second}
use Rattle.layout.specs.Layout.{total, decode_all, value_in, present_in}
use Rattle.layout_reader.specs.Inner.{readable, values_loaded, present_loaded}

module _ (es : List ℕ) (p : ℕ) (s : List ℕ) (z : List ℤ) (b : List ℕ) where
  pub left : readable es p s (length z) (length b) ≡ false → (z ≡ values_loaded es p s z b) × (b ≡ present_loaded es p s z b)
  unfolding values_loaded present_loaded
  left f = rw f (refl, refl)

  pub too_many : 96 < length es → (z ≡ values_loaded es p s z b) × (b ≡ present_loaded es p s z b)
  too_many h = left (rw (lt-leb (length es) 96 h))

  pub loaded : readable es p s (length z) (length b) ≡ true
      → (map value_in (decode_all es p s) ++ drop (length es) z ≡ values_loaded es p s z b) × (map present_in (decode_all es p s) ++ drop (length es) b ≡ present_loaded es p s z b)
  unfolding values_loaded present_loaded
  loaded t = rw t (refl, refl)

  pub loads : length es ≤ 96 → p + total es ≤ 65535 → p + total es ≤ 8 * length s → length es ≤ length z → length es ≤ length b
      → (map value_in (decode_all es p s) ++ drop (length es) z ≡ values_loaded es p s z b) × (map present_in (decode_all es p s) ++ drop (length es) b ≡ present_loaded es p s z b)
  loads k q r l m = loaded (rw (le-leb (length es) 96 k, le-leb (p + total es) 65535 q, le-leb (p + total es) (8 * length s) r, le-leb (length es) (length z) l, le-leb (length es) (length b) m))

-- what the test of `fits` says
pub record Stands (k p n bits l m : ℕ) : Type 0 where
  pub near : p + n ≤ 65535
  pub within : p + n ≤ bits
  pub values : k ≤ l
  pub present : k ≤ m

pub stands : (k p n bits l m : ℕ) → (leb k 96 && leb (p + n) 65535 && leb (p + n) bits && leb k l && leb k m) ≡ true → Stands k p n bits l m
stands k p n bits l m t =
    let a = both_first (leb k 96 && leb (p + n) 65535 && leb (p + n) bits && leb k l) (leb k m) t in
    let b = both_first (leb k 96 && leb (p + n) 65535 && leb (p + n) bits) (leb k l) a in
    let c = both_first (leb k 96 && leb (p + n) 65535) (leb (p + n) bits) b in
    record {
      near = leb-true (p + n) 65535 (both-second (leb k 96) (leb (p + n) 65535) c);
      within = leb-true (p + n) bits (both-second (leb k 96 && leb (p + n) 65535) (leb (p + n) bits) b);
      values = leb-true k l (both-second (leb k 96 && leb (p + n) 65535 && leb (p + n) bits) (leb k l) a);
      present = leb-true k m (both-second (leb k 96 && leb (p + n) 65535 && leb (p + n) bits && leb k l) (leb k m) t);
    }
