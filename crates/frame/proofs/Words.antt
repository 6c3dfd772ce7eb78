-- The tests at one place say what request A1's words say.
-- Assumes nothing.
use Prim.Native.Nat.{ℕ, ◌+◌, ◌*◌, ◌/◌, ◌%◌, ◌≤◌, ◌<◌}
use mathlib.Core.Bool.{Bool, true, false, ◌&&◌}
use mathlib.Core.List.{List, [], ◌∷◌, ◌++◌, append_assoc}
use mathlib.Core.Path.{◌≡◌, sym, ap, ap₂, ◌∙◌}
use native.Mathlib.Nat.{add_comm}
use native.Mathlib.Omega.{arith}
use lib.Dec.{ltb, leb, eqb}
use lib.ListN.{length, get_or, take, drop, length-drop, take-append-drop}
use lib.Seq.{length-take-le, get_or-drop, take-add}
use borrow.Author.Tests.{lt-ltb, eq-eqb, eqb-true, ltb-true, leb-true}
use Rattle.arith.proofs.Tests.{both_first, both-second, false-ne-true}
use Rattle.frame_crc.specs.Crc.{crc}
use Rattle.frame.specs.Frames.{head, three, headed, frame, candidate, length_of, three_at, right_crc, unfinished, whole}
use Rattle.frame.specs.Words.{Bytes, Calls, Stands}
use Rattle.frame.proofs.Start.{size, finished, stands}

-- ---- an unfinished candidate

pub unfinished-calls : (t : List ℕ) → unfinished t ≡ true → Calls t
unfolding Calls unfinished candidate length_of
unfinished-calls [] e = false-ne-true e
unfinished-calls (a ∷ []) e = eqb-true a 211 (both_first (eqb a 211) true (both_first (eqb a 211 && true) true e))
unfinished-calls (a ∷ b ∷ []) e =
    let k = both_first (eqb a 211 && ltb b 4) (ltb 2 (b % 4 * 256 + 0 + 6)) e in
    (eqb-true a 211 (both_first (eqb a 211) (ltb b 4) k), ltb-true b 4 (both-second (eqb a 211) (ltb b 4) k))
unfinished-calls (a ∷ b ∷ c ∷ r) e =
    let n : ℕ = b % 4 * 256 + c in
    let k = both_first (eqb a 211 && ltb b 4) (ltb (length (a ∷ b ∷ c ∷ r)) (n + 6)) e in
    let l : length (a ∷ b ∷ c ∷ r) < n + 6 = ltb-true (length (a ∷ b ∷ c ∷ r)) (n + 6) (both-second (eqb a 211 && ltb b 4) (ltb (length (a ∷ b ∷ c ∷ r)) (n + 6)) e) in
    let z : b < 4 = ltb-true b 4 (both-second (eqb a 211) (ltb b 4) k) in
    (eqb-true a 211 (both_first (eqb a 211) (ltb b 4) k), (z, omega arith))

pub calls-unfinished : (t : List ℕ) → Calls t → unfinished t ≡ true
unfolding Calls unfinished candidate length_of
calls-unfinished [] k = absurd k
calls-unfinished (a ∷ []) k = rw (eq-eqb a 211 k)
calls-unfinished (a ∷ b ∷ []) k = rw (eq-eqb a 211 k.0, lt-ltb b 4 k.1) (lt-ltb 2 (b % 4 * 256 + 0 + 6) (omega arith))
calls-unfinished (a ∷ b ∷ c ∷ r) k =
    let z : b < 4 = k.1.0 in
    let l : length r < b * 256 + c + 3 = k.1.1 in
    rw (eq-eqb a 211 k.0, lt-ltb b 4 z) (lt-ltb (length (a ∷ b ∷ c ∷ r)) (b % 4 * 256 + c + 6) (omega arith))

-- ---- a whole frame

pub record Whole (t : List ℕ) : Type 0 where
  pub starts : get_or t 0 0 ≡ 211
  pub zeros : get_or t 1 0 < 4
  pub long : length_of t + 6 ≤ length t
  pub right : crc (take (length_of t + 3) t) ≡ three_at t (length_of t + 3)

pub parts-of : (t : List ℕ) → whole t ≡ true → Whole t
unfolding whole candidate right_crc
parts-of t e =
    let p : Bool = eqb (get_or t 0 0) 211 in
    let q : Bool = ltb (get_or t 1 0) 4 in
    let r : Bool = leb (length_of t + 6) (length t) in
    let z : Bool = eqb (crc (take (length_of t + 3) t)) (three_at t (length_of t + 3)) in
    let k = both_first (p && q) (r && z) e in
    let l = both-second (p && q) (r && z) e in
    record {
      starts = eqb-true (get_or t 0 0) 211 (both_first p q k);
      zeros = ltb-true (get_or t 1 0) 4 (both-second p q k);
      long = leb-true (length_of t + 6) (length t) (both_first r z l);
      right = eqb-true (crc (take (length_of t + 3) t)) (three_at t (length_of t + 3)) (both-second r z l);
    }

-- three bytes are the number that they hold
split-three : (q : List ℕ) → 3 ≤ length q → Bytes q → q ≡ three (three_at q 0) ++ drop 3 q
unfolding three three_at
split-three [] h b = absurd (omega arith)
split-three (x ∷ []) h b = absurd (omega arith)
split-three (x ∷ y ∷ []) h b = absurd (omega arith)
split-three (x ∷ y ∷ z ∷ q) h b =
    let n : ℕ = x * 65536 + y * 256 + z in
    let p : x < 256 = b 0 in
    let r : y < 256 = b 1 in
    let s : z < 256 = b 2 in
    let i : x ≡ n / 65536 = omega arith in
    let j : y ≡ n / 256 % 256 = omega arith in
    let k : z ≡ n % 256 = omega arith in
    ap₂ (λ (u v : ℕ). u ∷ v ∷ z ∷ q) i j ∙ ap (λ (u : ℕ). n / 65536 ∷ n / 256 % 256 ∷ u ∷ q) k

-- from the length byte on
module _ (a b c : ℕ) (r : List ℕ) (bytes : Bytes (a ∷ b ∷ c ∷ r)) (w : Whole (a ∷ b ∷ c ∷ r)) where
  t : List ℕ
  t = a ∷ b ∷ c ∷ r

  n : ℕ
  n = b % 4 * 256 + c

  m : List ℕ
  m = take n r

  q : List ℕ
  q = drop n r

  room : n + 3 ≤ length r
  unfolding t n length_of
  room = omega (arith, w.long)

  short : n ≤ 1023
  unfolding n
  short = omega (arith, bytes 2)

  length-m : length m ≡ n
  unfolding m
  length-m = length-take-le n r (omega (arith, room))

  same_head : a ∷ b ∷ c ∷ m ≡ headed m
  unfolding headed head t n
  same_head =
      let z : b < 4 = w.zeros in
      let y : c < 256 = bytes 2 in
      let i : b ≡ length m / 256 = omega (arith, length-m) in
      let j : c ≡ length m % 256 = omega (arith, length-m) in
      ap₂ (λ (u v : ℕ). u ∷ v ∷ c ∷ m) w.starts i ∙ ap (λ (u : ℕ). 211 ∷ length m / 256 ∷ u ∷ m) j

  front : take (n + 3) t ≡ headed m
  unfolding t m
  front = ap (λ (k : ℕ). take k t) (add_comm n 3) ∙ take-add 3 n t ∙ same_head

  behind-byte : (k : ℕ) → get_or t (n + 3 + k) 0 ≡ get_or q k 0
  unfolding t q
  behind-byte k =
      let e : n + 3 + k ≡ 3 + (n + k) = omega arith in
      ap (λ (j : ℕ). get_or t j 0) e ∙ sym (get_or-drop 3 t (n + k) 0) ∙ sym (get_or-drop n r k 0)

  behind-crc : three_at t (n + 3) ≡ three_at q 0
  unfolding three_at
  behind-crc =
      let e : n + 3 ≡ n + 3 + 0 = omega arith in
      rw (ap (λ (j : ℕ). get_or t j 0) e ∙ behind-byte 0, behind-byte 1, behind-byte 2)

  is-crc : three_at q 0 ≡ crc (headed m)
  unfolding t n length_of
  is-crc = sym behind-crc ∙ sym w.right ∙ ap crc front

  rest-bytes : Bytes q
  unfolding t q
  rest-bytes i = rw (get_or-drop n r i 0) (rw (get_or-drop 3 t (n + i) 0) (bytes (3 + (n + i))))

  is-frame : t ≡ frame m ++ drop 3 q
  unfolding frame t m q
  is-frame =
      ap (λ (l : List ℕ). a ∷ b ∷ c ∷ l) (sym (take-append-drop n r))
      ∙ ap (λ (l : List ℕ). a ∷ b ∷ c ∷ (m ++ l)) (split-three q (simp length-drop (omega (arith, room))) rest-bytes)
      ∙ ap₂ (λ (l k : List ℕ). l ++ (k ++ drop 3 q)) same_head (ap three is-crc)
      ∙ sym (append_assoc (headed m) (three (crc (headed m))) (drop 3 q))

from-length : (a b c : ℕ) (r : List ℕ) → Bytes (a ∷ b ∷ c ∷ r) → Whole (a ∷ b ∷ c ∷ r) → Stands (a ∷ b ∷ c ∷ r) (length_of (a ∷ b ∷ c ∷ r))
unfolding length_of t n
from-length a b c r d w =
    record {
      message = m a b c r d w;
      behind = drop 3 (q a b c r d w);
      written = is-frame a b c r d w;
      size = length-m a b c r d w;
      short = short a b c r d w;
    }

pub whole-stands : (t : List ℕ) → Bytes t → whole t ≡ true → Stands t (length_of t)
whole-stands t b e = go t b (parts-of t e)
  where
    go : (t : List ℕ) → Bytes t → Whole t → Stands t (length_of t)
    go [] b w = absurd (omega (arith, w.long))
    go (x ∷ []) b w = absurd (omega (arith, w.long))
    go (x ∷ y ∷ []) b w = absurd (omega (arith, w.long))
    go (x ∷ y ∷ z ∷ r) b w = from-length x y z r b w

pub stands-whole : (t : List ℕ) (n : ℕ) → Stands t n → whole t ≡ true
stands-whole t n s = rw s.written (stands s.message s.behind (omega (arith, s.size, s.short)))

pub stands-finished : (t : List ℕ) (n : ℕ) → Stands t n → unfinished t ≡ false
stands-finished t n s = rw s.written (finished s.message s.behind (omega (arith, s.size, s.short)))

pub stands-size : (t : List ℕ) (n : ℕ) → Stands t n → length_of t ≡ n
stands-size t n s = ap length_of s.written ∙ size s.message s.behind (omega (arith, s.size, s.short)) ∙ s.size
