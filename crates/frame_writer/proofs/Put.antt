-- Lists in which the first bytes are replaced by a frame's.
-- Assumes nothing.
use Prim.Native.Nat.{ℕ, ◌+◌, ◌-◌, ◌/◌, ◌%◌, ◌≤◌, ◌<◌}
use mathlib.Core.List.{List, [], ◌∷◌, ◌++◌, append_assoc, append-nil}
use mathlib.Core.Path.{◌≡◌, sym, ap, ap₂, ◌∙◌}
use native.Mathlib.Nat.{add_comm}
use native.Mathlib.Omega.{arith}
use lib.ListN.{length, take, drop, length-drop, length-append}
use lib.Seq.{take_at, drop_at, drop-append-add, drop-drop, drop-length}
use borrow.Author.Tests.{lt-ltb, le-ltb}
use borrow.Rule.Slice.PartMut.{put_mid, Post-is}
use Rattle.frame_crc.specs.Crc.{crc_from, crc}
use Rattle.frame_crc.proofs.Linear.{low}
use Rattle.frame.specs.Frames.{head, three, headed, frame}
use Rattle.frame.proofs.At.{rest}
use Rattle.frame.proofs.Lengths.{length-headed}
use Rattle.frame_writer.specs.Refusals.{frame_refusal}

-- head, then message
module _ (m out t z : List ℕ) (first : t ≡ head (length m) ++ drop 3 out) (then : z ≡ m) where
  pub headed_put : put_mid 3 (length m + 3 - 3) t z ≡ headed m ++ drop (length m + 3) out
  unfolding headed head
  headed_put =
      ap₂ (λ (p q : List ℕ). p ++ (z ++ q)) (ap (take 3) first) (Post-is 3 (length m + 3) t (omega arith) ∙ behind)
      ∙ ap (λ (p : List ℕ). head (length m) ++ (p ++ drop (length m + 3) out)) then
    where
      behind : drop (length m + 3) t ≡ drop (length m + 3) out
      behind =
          ap (drop (length m + 3)) first
          ∙ ap (λ (k : ℕ). drop k (head (length m) ++ drop 3 out)) (add_comm (length m) 3)
          ∙ drop-append-add (head (length m)) (drop 3 out) (length m) ∙ drop-drop (length m) 3 out ∙ ap (λ (k : ℕ). drop k out) (add_comm 3 (length m))

-- a zero byte before the head leaves the CRC as it is
pub crc-headed : (m : List ℕ) (z a b c : ℕ) → z ≡ 0 → a ≡ 211 → b ≡ length m / 256 → c ≡ length m % 256 → crc ((z ∷ a ∷ b ∷ c ∷ []) ++ m) ≡ crc (headed m)
unfolding crc_from crc headed head
crc-headed m z a b c p q r s = rw (p, q, r, s) (ap (λ (n : ℕ). crc_from n (head (length m) ++ m)) (low 0 (omega arith)))

-- head and message, then the CRC
module _ (m out t : List ℕ) (room : length m + 6 ≤ length out) (first : t ≡ headed m ++ drop (length m + 3) out) where
  pub taken : take (length m + 3) t ≡ headed m
  taken = ap (take (length m + 3)) first ∙ take_at (headed m) (drop (length m + 3) out) (length m + 3) (length-headed m)

  left : drop (length m + 3) t ≡ drop (length m + 3) out
  left = ap (drop (length m + 3)) first ∙ drop_at (headed m) (drop (length m + 3) out) (length m + 3) (length-headed m)

  pub long : length t ≡ length out
  long = ap length first ∙ simp (length-append, length-drop) (omega (arith, length-headed m))

  pub crc-place : 3 ≤ length (take (length t - (length m + 3)) (drop (length m + 3) t))
  crc-place = rw (rest t (length m + 3)) (simp length-drop (omega (arith, long)))

  pub frame-put : (c : ℕ) (z : List ℕ) → c ≡ crc (headed m)
      → z ≡ three c ++ drop 3 (take (length t - (length m + 3)) (drop (length m + 3) t))
      → put_mid (length m + 3) (length t - (length m + 3)) t z ≡ frame m ++ drop (length m + 6) out
  unfolding frame
  frame-put c z x y =
      ap₂ (λ (p q : List ℕ). p ++ (z ++ q)) taken (Post-is (length m + 3) (length t) t (omega (arith, long)) ∙ drop-length t)
      ∙ ap (λ (p : List ℕ). headed m ++ p) (append-nil z ∙ y ∙ ap₂ (λ (p q : List ℕ). p ++ q) (ap three x) tail)
      ∙ sym (append_assoc (headed m) (three (crc (headed m))) (drop (length m + 6) out))
    where
      e : length m + 3 + 3 ≡ length m + 6
      e = omega arith

      tail : drop 3 (take (length t - (length m + 3)) (drop (length m + 3) t)) ≡ drop (length m + 6) out
      tail = ap (drop 3) (rest t (length m + 3) ∙ left) ∙ drop-drop 3 (length m + 3) out ∙ ap (λ (k : ℕ). drop k out) e

-- ---- the refusals

module _ (m : List ℕ) (room : ℕ) where
  pub too_long : 1023 < length m → frame_refusal m room ≡ 3
  unfolding frame_refusal
  too_long h = rw (lt-ltb 1023 (length m) h)

  pub no_room : length m ≤ 1023 → room < length m + 6 → frame_refusal m room ≡ 6
  unfolding frame_refusal
  no_room h k = rw (le-ltb 1023 (length m) h, lt-ltb room (length m + 6) k)

  pub accepted : length m ≤ 1023 → length m + 6 ≤ room → frame_refusal m room ≡ 0
  unfolding frame_refusal
  accepted h k = rw (le-ltb 1023 (length m) h, le-ltb room (length m + 6) k)
