-- The answers of checks, readers and writers, one law for each way out.
-- Assumes nothing.
use mathlib.Core.Path.{◌≡◌, refl, sym, ap, ◌∙◌}
use mathlib.Core.List.{List, [], ◌∷◌, ◌++◌}
use mathlib.Core.Bool.{true, false, not}
use Prim.Native.Nat.{ℕ, suc, ◌≤◌, ◌<◌}
use lib.Dec.{ltb, eqb, eqb-suc-zero}
use Rattle.arith.specs.First.{Test}
use lib.ListN.{length, drop}
use lib.IntN.{ℤ}
use borrow.Author.Tests.{lt-ltb, le-ltb, eq-eqb, ne_eqb, ltb-false, eqb-true}
use Rattle.arith.proofs.First.{passed, not-false, stops, goes_on}
use Rattle.layout.specs.declared.Written.{Written}
use Rattle.layout.specs.Layout.{all_take, total, size, decode_all, zero_from, read_tests, stored, row_takes, answered}
use Rattle.layout.specs.Inner.{refusal_of, decode_refusal, encode_refusal}

pub length-decode_all : (es : List ℕ) (p : ℕ) (s : List ℕ) → length (decode_all es p s) ≡ length es
unfolding decode_all
length-decode_all [] p s = refl
length-decode_all (e ∷ es) p s = ap suc (length-decode_all es _ s)

-- what an answer of 0 says of the tests
pub record Accepted (es s : List ℕ) : Type 0 where
  pub few : length es ≤ 96
  pub sized : length s ≡ size es
  pub filled : zero_from s (total es) ≡ true
  pub ranged : all_take es (decode_all es 0 s) ≡ true

module _ (es s : List ℕ) where
  pub accepted : refusal_of es s ≡ 0 → Accepted es s
  unfolding refusal_of
  accepted h =
      let a = passed 2 (ltb 96 (length es)) _ h in
      let b = passed 2 (not (eqb (length s) (size es))) _ a.1 in
      let c = passed 3 (not (zero_from s (total es))) _ b.1 in
      let d = passed 4 (not (all_take es (decode_all es 0 s))) _ c.1 in
      record {
        few = ltb-false 96 (length es) a.0;
        sized = eqb-true (length s) (size es) (not-false _ b.0);
        filled = not-false _ c.0;
        ranged = not-false _ d.0;
      }

  pub refused_none : Accepted es s → refusal_of es s ≡ 0
  unfolding refusal_of
  refused_none a = rw (le-ltb 96 (length es) a.few, eq-eqb (length s) (size es) a.sized, a.filled, a.ranged)

  pub too_many : 96 < length es → refusal_of es s ≡ 3
  unfolding refusal_of
  too_many h = rw (lt-ltb 96 (length es) h)

  module _ (few : length es ≤ 96) where
    pub wrong-length : (length s ≡ size es → ⊥) → refusal_of es s ≡ 3
    unfolding refusal_of
    wrong-length h = rw (le-ltb 96 (length es) few, ne_eqb (length s) (size es) h)

    module _ (sized : length s ≡ size es) where
      pub fill-set : zero_from s (total es) ≡ false → refusal_of es s ≡ 4
      unfolding refusal_of
      fill-set f = rw (le-ltb 96 (length es) few, eq-eqb (length s) (size es) sized, f)

      pub out_of_range : zero_from s (total es) ≡ true → all_take es (decode_all es 0 s) ≡ false → refusal_of es s ≡ 5
      unfolding refusal_of
      out_of_range f r = rw (le-ltb 96 (length es) few, eq-eqb (length s) (size es) sized, f, r)

-- ---- decode
module _ (es s : List ℕ) (m n : ℕ) where
  unfoldable rooms : List Test
  rooms = (6, ltb m (length es)) ∷ (6, ltb n (length es)) ∷ []

  pub not-read : (refusal_of es s ≡ 0 → ⊥) → decode_refusal es s m n ≡ refusal_of es s
  unfolding decode_refusal refusal_of rooms
  not-read h = sym (stops (read_tests es s) rooms tt refl h)

  module _ (z : refusal_of es s ≡ 0) where
    pub few-values : m < length es → decode_refusal es s m n ≡ 6
    unfolding decode_refusal refusal_of rooms
    few-values h = sym (goes_on (read_tests es s) rooms tt z) ∙ rw (lt-ltb m (length es) h)

    module _ (k : length es ≤ m) where
      pub few_bytes : n < length es → decode_refusal es s m n ≡ 6
      unfolding decode_refusal refusal_of rooms
      few_bytes h = sym (goes_on (read_tests es s) rooms tt z) ∙ rw (le-ltb m (length es) k, lt-ltb n (length es) h)

      pub read_none : length es ≤ n → decode_refusal es s m n ≡ 0
      unfolding decode_refusal refusal_of rooms
      read_none h = sym (goes_on (read_tests es s) rooms tt z) ∙ rw (le-ltb m (length es) k, le-ltb n (length es) h)

-- ---- lent places: kept with a refusal, and filled with none
module _ {A : Type 0} (n : ℕ) (m out : List A) where
  pub kept : (n ≡ 0 → ⊥) → out ≡ stored n m out
  unfolding stored
  kept h = rw (ne_eqb n 0 h)

  pub filled-first : (k : ℕ) → n ≡ 0 → length m ≡ k → m ++ drop k out ≡ stored n m out
  unfolding stored
  filled-first k e f = rw (e, ← f)

-- a row that was not read
pub refused-read : (n d : ℕ) (vs v : List ℤ) (bs b : List ℕ) → d ≡ n → (n ≡ 0 → ⊥) → (n ≡ d) × ((v ≡ stored d vs v) × (b ≡ stored d bs b))
refused-read n d vs v bs b e h = (sym e, (kept d vs v (λ z. h (sym e ∙ z)), kept d bs b (λ z. h (sym e ∙ z))))

-- ---- writers

-- what an answer of 0 says of a write
pub record Writable (es : List ℕ) (zs : List ℤ) (bs : List ℕ) (n : ℕ) : Type 0 where
  pub few : length es ≤ 96
  pub taken : row_takes es zs bs ≡ true
  pub room : size es ≤ n

pub writable : (es : List ℕ) (zs : List ℤ) (bs : List ℕ) (n : ℕ) → encode_refusal es zs bs n ≡ 0 → Writable es zs bs n
unfolding encode_refusal
writable es zs bs n h =
    let a = passed 4 (ltb 96 (length es)) _ h in
    let b = passed 4 (not (row_takes es zs bs)) _ a.1 in
    let c = passed 5 (ltb n (size es)) _ b.1 in
    record {
      few = ltb-false 96 (length es) a.0;
      taken = not-false _ b.0;
      room = ltb-false n (size es) c.0;
    }

-- any writer's way out: a refusal keeps the output, and 0 has the message's length
pub refused-write : (n k : ℕ) (m out : List ℕ) → n ≡ suc k → (◌≡◌ {A = Written} (record { refusal = suc k; length = 0 }) (answered n m)) × (out ≡ stored n m out)
unfolding answered stored
refused-write n k m out e = rw (e, eqb-suc-zero) (refl, refl)

pub done-write : (n k : ℕ) (m out : List ℕ) → n ≡ 0 → k ≡ length m → (◌≡◌ {A = Written} (record { refusal = 0; length = k }) (answered n m)) × (m ++ drop k out ≡ stored n m out)
unfolding answered stored
done-write n k m out e f = rw (e, f) (refl, refl)
