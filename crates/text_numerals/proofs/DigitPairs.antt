-- Pairs of hexadecimal digits: how they go on from one pair to the next, the byte that each spells and the digits of each byte.
-- Assumes nothing.
use Prim.Native.Nat.{ℕ, zero, suc, ◌+◌, ◌*◌, ◌/◌, ◌%◌, ◌≤◌, ◌<◌}
use native.Mathlib.Numerals.{add-one}
use native.Mathlib.Nat.{zero-add, not-suc-le-zero}
use native.Mathlib.Omega.{arith}
use mathlib.Core.Path.{◌≡◌, refl, sym, ap, ◌∙◌}
use mathlib.Core.Bool.{Bool, true, false, ◌&&◌}
use mathlib.Core.List.{List, [], ◌∷◌, ◌++◌}
use lib.Dec.{ltb}
use Rattle.std.specs.List.{list_all}
use lib.ListN.{length, get_or, set, take, drop}
use lib.Seq.{paste, paste-suc}
use borrow.Author.Tests.{ltb-true}
use Rattle.text_numerals.specs.Inner.{digit, glyph, pairs, bytes_of, pairs_of}

-- ---- whether all are pairs

and_assoc : (x y z : Bool) → (x && (y && z)) ≡ (x && y && z)
and_assoc true y z = refl
and_assoc false y z = refl

and-false : (x : Bool) → (x && false) ≡ false
and-false true = refl
and-false false = refl

pub even_pairs : (s : List ℕ) → length s % 2 ≡ 0 → list_all (λ b. ltb (digit b) 16) s ≡ pairs s
unfolding pairs
even_pairs [] h = refl
even_pairs (a ∷ []) h = absurd (let z : 1 ≡ 0 = h in omega arith)
even_pairs (a ∷ (b ∷ s)) h =
    and_assoc (ltb (digit a) 16) (ltb (digit b) 16) _ ∙ ap (λ r. ltb (digit a) 16 && ltb (digit b) 16 && r) (even_pairs s (omega arith))

pub odd_pairs : (s : List ℕ) → (length s % 2 ≡ 0 → ⊥) → false ≡ pairs s
unfolding pairs
odd_pairs [] h = absurd (h refl)
odd_pairs (a ∷ []) h = refl
odd_pairs (a ∷ (b ∷ s)) h = rw (sym (odd_pairs s (λ e. h (omega arith)))) (sym (and-false (ltb (digit a) 16 && ltb (digit b) 16)))

-- ---- the byte of each pair

pub bytes-length : (s : List ℕ) → length (bytes_of s) ≡ length s / 2
unfolding bytes_of
bytes-length [] = refl
bytes-length (a ∷ []) = refl
bytes-length (a ∷ (b ∷ s)) = omega (arith, bytes-length s)

next-high : (a b : ℕ) (s : List ℕ) (k : ℕ) → get_or (a ∷ (b ∷ s)) (2 * suc k) 0 ≡ get_or s (2 * k) 0
next-high a b s k = let q : 2 * suc k ≡ suc (suc (2 * k)) = omega arith in rw q

next_low : (a b : ℕ) (s : List ℕ) (k : ℕ) → get_or (a ∷ (b ∷ s)) (2 * suc k + 1) 0 ≡ get_or s (2 * k + 1) 0
next_low a b s k = let q : 2 * suc k + 1 ≡ suc (suc (2 * k + 1)) = omega arith in rw q

pub byte_at : (s : List ℕ) (k : ℕ) → k < length s / 2 → get_or (bytes_of s) k 0 ≡ digit (get_or s (2 * k) 0) * 16 + digit (get_or s (2 * k + 1) 0)
unfolding bytes_of
byte_at [] k h = absurd (let i : k < 0 = h in omega arith)
byte_at (a ∷ []) k h = absurd (let i : k < 0 = h in omega arith)
byte_at (a ∷ (b ∷ s)) zero h = refl
byte_at (a ∷ (b ∷ s)) (suc k) h = rw (next-high a b s k, next_low a b s k) (byte_at s k (omega arith))

pub and_both : (x y : Bool) → (x && y) ≡ true → (x ≡ true) × (y ≡ true)
and_both true true e = (refl, refl)
and_both true false e = (refl, e)
and_both false y e = absurd (let z : ◌≡◌ {A = Bool} false true = e in let n : ◌≡◌ {A = ℕ} 0 1 = cc in omega arith)

pub record Below (s : List ℕ) (k : ℕ) : Type 0 where
  pub high : digit (get_or s (2 * k) 0) < 16
  pub low : digit (get_or s (2 * k + 1) 0) < 16

pub pairs-at : (s : List ℕ) (k : ℕ) → pairs s ≡ true → k < length s / 2 → Below s k
unfolding pairs
pairs-at [] k e h = absurd (let i : k < 0 = h in omega arith)
pairs-at (a ∷ []) k e h = absurd (let i : k < 0 = h in omega arith)
pairs-at (a ∷ (b ∷ s)) zero e h =
    let p = (and_both (ltb (digit a) 16 && ltb (digit b) 16) (pairs s) e).0 in
    let q = and_both (ltb (digit a) 16) (ltb (digit b) 16) p in
    record { high = ltb-true (digit a) 16 q.0; low = ltb-true (digit b) 16 q.1 }
pairs-at (a ∷ (b ∷ s)) (suc k) e h =
    let r = pairs-at s k (and_both (ltb (digit a) 16 && ltb (digit b) 16) (pairs s) e).1 (omega arith) in
    record { high = rw (next-high a b s k) r.high; low = rw (next_low a b s k) r.low }

-- a byte more at the front of a buffer
pub front-turn : (d t : List ℕ) (k : ℕ) → k < length d → k < length t → set (take k t ++ drop k d) k (get_or t k 0) ≡ take (k + 1) t ++ drop (k + 1) d
front-turn d t k h g = rw (add-one k) (rw (zero-add k, zero-add (suc k)) at (paste-suc d 0 t k 0 (rw (zero-add k) h) g))

-- ---- the digits of each byte

pub pairs-length : (s : List ℕ) → length (pairs_of s) ≡ 2 * length s
unfolding pairs_of
pairs-length [] = refl
pairs-length (b ∷ s) = omega (arith, pairs-length s)

pub high-at : (s : List ℕ) (k : ℕ) → k < length s → get_or (pairs_of s) (2 * k) 0 ≡ glyph (get_or s k 0 / 16)
unfolding pairs_of
high-at [] k h = absurd (not-suc-le-zero h)
high-at (b ∷ s) zero h = refl
high-at (b ∷ s) (suc k) h = rw (next-high (glyph (b / 16)) (glyph (b % 16)) (pairs_of s) k) (high-at s k (omega arith))

pub low-at : (s : List ℕ) (k : ℕ) → k < length s → get_or (pairs_of s) (2 * k + 1) 0 ≡ glyph (get_or s k 0 % 16)
unfolding pairs_of
low-at [] k h = absurd (not-suc-le-zero h)
low-at (b ∷ s) zero h = refl
low-at (b ∷ s) (suc k) h = rw (next_low (glyph (b / 16)) (glyph (b % 16)) (pairs_of s) k) (low-at s k (omega arith))

-- a pair more in a buffer, by two stores
pub paste-pair : (d : List ℕ) (at : ℕ) (s : List ℕ) (k : ℕ) → at + 2 * length s ≤ length d → k < length s
    → set (set (paste d at (pairs_of s) (2 * k)) (at + 2 * k) (glyph (get_or s k 0 / 16))) (at + 2 * k + 1) (glyph (get_or s k 0 % 16)) ≡ paste d at (pairs_of s) (2 * (k + 1))
paste-pair d at s k h g =
    let n = pairs-length s in
    let t = pairs_of s in
    let q : 2 * (k + 1) ≡ suc (2 * k + 1) = omega arith in
    let e : at + 2 * k + 1 ≡ at + (2 * k + 1) = omega arith in
    let high = paste-suc d at t (2 * k) 0 (omega arith) (omega arith) in
    let low = paste-suc d at t (2 * k + 1) 0 (omega arith) (omega arith) in
    rw (e, q)
    (
    ap (λ x. set (set (paste d at t (2 * k)) (at + 2 * k) x) (at + (2 * k + 1)) (glyph (get_or s k 0 % 16))) (sym (high-at s k g))
    ∙ ap (λ o. set o (at + (2 * k + 1)) (glyph (get_or s k 0 % 16))) (high ∙ ap (paste d at t) (sym (add-one (2 * k))))
    ∙ ap (λ x. set (paste d at t (2 * k + 1)) (at + (2 * k + 1)) x) (sym (low-at s k g))
    ∙ low
    )
