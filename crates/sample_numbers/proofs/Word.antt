-- What the loops and tests of the code do with numbers in bytes.
-- Assumes nothing.
use mathlib.Core.Path.{◌≡◌, refl, sym, ap, ◌∙◌}
use mathlib.Core.Bool.{true}
use lib.Dec.{leb}
use Rattle.sample_numbers.specs.Inner.{number_at}
use mathlib.Core.List.{List, [], ◌∷◌, ◌++◌, append_assoc}
use Prim.Native.Nat.{ℕ, zero, suc, ◌+◌, ◌-◌, ◌*◌, ◌/◌, ◌%◌, ◌^◌, ◌≤◌, ◌<◌}
use native.Mathlib.Numerals.{add-one}
use native.Mathlib.Omega.{arith}
use borrow.Author.Tests.{leb-true}
use borrow.Rule.Slice.PartMut.{put_mid, Post-is}
use lib.ListN.{length, take, drop, set, length-drop}
use lib.Pow.{pow_mono}
use lib.Seq.{get_or-take, set_split, drop_at, length-take-le}
use Rattle.sample_numbers.specs.Number.{number, bytes_of, put_bytes}
use Rattle.sample_numbers.proofs.Number.{room-suc, length-bytes_of, put-within, number-within}

-- ---- a loop that reads a number, byte by byte

pub fits_word : (x i : ℕ) → i ≤ 8 → x < 2 ^ (8 * i) → x < 2 ^ 64
fits_word x i h l = let p : 2 ^ (8 * i) ≤ 2 ^ 64 = pow_mono {i = 8 * i} {j = 64} (omega arith) in omega arith

pub round_room : (r b i : ℕ) → r < 2 ^ (8 * i) → b < 256 → r * 256 + b < 2 ^ (8 * (i + 1))
round_room r b i h l = rw (add-one i, room-suc i) (omega arith)

number-take : (n k : ℕ) (s : List ℕ) → k ≤ n → number k (take n s) ≡ number k s
unfolding number
number-take n zero s h = refl
number-take n (suc k) s h = rw (number-take n k s (omega arith), get_or-take n s k 0 (omega arith))

pub read-part : (s : List ℕ) (a k r : ℕ) → k ≤ 8 → leb (a + k) (length s) ≡ true
    → r ≡ number (length (take (a + k - a) (drop a s))) (take (a + k - a) (drop a s)) → r ≡ number_at s a k
read-part s a k r h l e =
    let room : a + k ≤ length s = leb-true (a + k) (length s) l in
    let n : length (take (a + k - a) (drop a s)) ≡ k = length-take-le (a + k - a) (drop a s) (omega (arith, length-drop a s)) ∙ omega arith in
    e ∙ ap (λ (j : ℕ). number j (take (a + k - a) (drop a s))) n ∙ number-take (a + k - a) k (drop a s) (omega arith) ∙ sym (number-within s a k h room)

-- ---- a loop that stores a number, last byte first

store_byte : (out : List ℕ) (v j : ℕ) → j < length out → bytes_of (suc j) v ++ drop (suc j) out ≡ bytes_of j (v / 256) ++ drop j (set out j (v % 256))
unfolding bytes_of
store_byte out v j h =
    append_assoc (bytes_of j (v / 256)) (v % 256 ∷ []) (drop (suc j) out)
    ∙ ap (λ (l : List ℕ). bytes_of j (v / 256) ++ l)
    (sym (ap (drop j) (set_split out j (v % 256) h) ∙ drop_at (take j out) (v % 256 ∷ drop (suc j) out) j (length-take-le j out (omega arith))))

pub round-byte : (out : List ℕ) (v k : ℕ) → 0 < k → k ≤ length out → bytes_of k v ++ drop k out ≡ bytes_of (k - 1) (v / 256) ++ drop (k - 1) (set out (k - 1) (v % 256))
round-byte out v k p h =
    let e : k ≡ suc (k - 1) = omega arith in
    ap (λ (n : ℕ). bytes_of n v ++ drop n out) e ∙ store_byte out v (k - 1) (omega arith)

pub end-bytes : (out : List ℕ) (v k : ℕ) → k ≤ 0 → bytes_of k v ++ drop k out ≡ out
unfolding bytes_of
end-bytes out v k h = let e : k ≡ 0 = omega arith in rw e

-- ---- the part from a to a + k that bytes are put into

pub put-part : (t z b : List ℕ) (a k : ℕ) → length b ≡ k → a + k ≤ length t → z ≡ b → put_mid a (a + k - a) t z ≡ put_bytes t a b
put-part t z b a k n h e =
    ap (put_mid a (a + k - a) t) e
    ∙ ap (λ (r : List ℕ). take a t ++ (b ++ r)) (Post-is a (a + k) t (omega arith))
    ∙ ap (λ (j : ℕ). take a t ++ (b ++ drop (a + j) t)) (sym n)
    ∙ sym (put-within t a b (omega arith))

pub put-number : (t z : List ℕ) (a k v : ℕ) → a + k ≤ length t → z ≡ bytes_of (length (take (a + k - a) (drop a t))) v → put_mid a (a + k - a) t z ≡ put_bytes t a (bytes_of k v)
put-number t z a k v h e =
    let n : length (take (a + k - a) (drop a t)) ≡ k = length-take-le (a + k - a) (drop a t) (omega (arith, length-drop a t)) ∙ omega arith in
    put-part t z (bytes_of k v) a k (length-bytes_of k v) h (e ∙ ap (λ (j : ℕ). bytes_of j v) n)
