-- What `hex` answers and stores, and the text that `put_hex` puts, by the tests of the code.
-- Assumes nothing.
use Prim.Native.Nat.{ℕ, suc, ◌+◌, ◌/◌, ◌≤◌, ◌<◌}
use native.Mathlib.Omega.{arith}
use mathlib.Core.Path.{◌≡◌, refl, sym}
use mathlib.Core.Bool.{Bool, true, false, ◌&&◌}
use mathlib.Core.List.{List, [], ◌∷◌, ◌++◌}
use lib.Dec.{ltb, leb}
use Rattle.std.specs.Prelude.{Some, None}
use lib.ListN.{length, drop}
use lib.Seq.{paste, take-length}
use borrow.Author.Tests.{lt-ltb, le-ltb, le-leb, lt-leb}
use Rattle.text_words.specs.Inner.{put}
use Rattle.text_words.proofs.Laws.{put-in}
use Rattle.text_numerals.specs.Inner.{none, pairs, bytes_of, hex_bytes, spells_bytes, hex_count, hex_filled, pairs_of, hexadecimal}
use Rattle.text_numerals.proofs.DigitPairs.{bytes-length}

and-false : (x : Bool) → (x && false) ≡ false
and-false true = refl
and-false false = refl

module _ (s d : List ℕ) where
  pub hex-none : none s ≡ true → (Some 0 ≡ hex_count s d) × (d ≡ hex_filled s d)
  unfolding hex_count hex_filled spells_bytes hex_bytes
  hex-none e = (rw e, rw e)

  module _ (e : none s ≡ false) where
    bad : (ltb 0 (length s) && leb (length (bytes_of s)) (length d) && pairs s) ≡ false → (None ≡ hex_count s d) × (d ≡ hex_filled s d)
    unfolding hex_count hex_filled spells_bytes
    bad q = (rw (e, q), rw (e, q))

    pub hex-empty : length s ≡ 0 → (None ≡ hex_count s d) × (d ≡ hex_filled s d)
    hex-empty h = bad (rw (le-ltb 0 (length s) (omega arith)))

    pub hex-large : length d < length s / 2 → (None ≡ hex_count s d) × (d ≡ hex_filled s d)
    hex-large h =
        let g : length d < length (bytes_of s) = omega (arith, bytes-length s) in
        bad (rw (lt-leb (length (bytes_of s)) (length d) g, and-false (ltb 0 (length s))))

    pub hex-odd : pairs s ≡ false → (None ≡ hex_count s d) × (d ≡ hex_filled s d)
    hex-odd h = bad (rw (h, and-false (ltb 0 (length s) && leb (length (bytes_of s)) (length d))))

    module _ (n : length s ≡ 0 → ⊥) (h : length s / 2 ≤ length d) (p : pairs s ≡ true) where
      accepted : (ltb 0 (length s) && leb (length (bytes_of s)) (length d) && pairs s) ≡ true
      accepted =
          let g : length (bytes_of s) ≤ length d = omega (arith, bytes-length s) in
          let m : 0 < length s = omega arith in
          rw (lt-ltb 0 (length s) m, le-leb (length (bytes_of s)) (length d) g, p)

      pub hex-is : (Some (length s / 2) ≡ hex_count s d) × (bytes_of s ++ drop (length s / 2) d ≡ hex_filled s d)
      unfolding hex_count hex_filled spells_bytes hex_bytes
      hex-is = (rw (e, accepted, bytes-length s), rw (e, accepted, bytes-length s))

pub no_bytes : (s : List ℕ) → length s ≡ 0 → hexadecimal s ≡ 45 ∷ []
unfolding hexadecimal
no_bytes [] h = refl
no_bytes (b ∷ s) h = absurd (let z : suc (length s) ≡ 0 = h in omega arith)

pub some_bytes : (s : List ℕ) → (length s ≡ 0 → ⊥) → hexadecimal s ≡ pairs_of s
unfolding hexadecimal
some_bytes [] h = absurd (h refl)
some_bytes (b ∷ s) h = refl

pub paste-put : (d : List ℕ) (at : ℕ) (t : List ℕ) (n : ℕ) → n ≡ length t → at + n ≤ length d → paste d at t n ≡ put d at t
paste-put d at t n e h =
    let g : at + length t ≤ length d = omega arith in
    rw (e, take-length t) (sym (put-in d at t g))
