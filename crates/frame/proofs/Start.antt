-- A frame stands where it was written, whatever follows.
-- Assumes nothing.
use Prim.Native.Nat.{ℕ, ◌+◌, ◌/◌, ◌≤◌, ◌<◌}
use mathlib.Core.Bool.{true, false}
use mathlib.Core.List.{List, [], ◌∷◌, ◌++◌, append_assoc}
use mathlib.Core.Path.{◌≡◌, refl, sym, ap, ap₂, ◌∙◌}
use native.Mathlib.Omega.{arith}
use lib.ListN.{length, get_or, take, drop, length-append}
use lib.Seq.{take_at, get_or-append-add, drop-append_seam, drop-append-add, take-append_seam}
use borrow.Author.Tests.{lt-ltb, le-ltb, le-leb, eq-eqb}
use Rattle.frame_crc.specs.Crc.{crc}
use Rattle.frame.specs.Frames.{head, three, headed, frame, candidate, length_of, three_at, right_crc, unfinished, whole, found, find_frame}
use Rattle.frame.specs.Stream.{stream, Short, ReadsBack}
use Rattle.frame_crc.proofs.Linear.{crc-lt}
use Rattle.frame.proofs.Lengths.{length-headed, length-frame}
use Rattle.frame.proofs.At.{over, hits}

module _ (m r : List ℕ) (short : length m ≤ 1023) where
  pub size : length_of (frame m ++ r) ≡ length m
  unfolding length_of frame headed head
  size = omega arith

  starts : candidate (frame m ++ r) ≡ true
  unfolding candidate frame headed head
  starts = lt-ltb (length m / 256) 4 (omega arith)

  total : length (frame m ++ r) ≡ length m + 6 + length r
  total = length-append (frame m) r ∙ ap (λ (k : ℕ). k + length r) (length-frame m)

  parted : frame m ++ r ≡ headed m ++ (three (crc (headed m)) ++ r)
  unfolding frame
  parted = append_assoc (headed m) (three (crc (headed m))) r

  front : take (length m + 3) (frame m ++ r) ≡ headed m
  front = ap (take (length m + 3)) parted ∙ take_at (headed m) (three (crc (headed m)) ++ r) (length m + 3) (length-headed m)

  end-byte : (k : ℕ) → get_or (frame m ++ r) (length m + 3 + k) 0 ≡ get_or (three (crc (headed m)) ++ r) k 0
  end-byte k =
      ap₂ (λ (l : List ℕ) (n : ℕ). get_or l (n + k) 0) parted (sym (length-headed m))
      ∙ get_or-append-add (headed m) (three (crc (headed m)) ++ r) k 0

  end-crc : three_at (frame m ++ r) (length m + 3) ≡ crc (headed m)
  unfolding three_at three
  end-crc =
      let z : length m + 3 ≡ length m + 3 + 0 = omega arith in
      let a : get_or (frame m ++ r) (length m + 3) 0 ≡ crc (headed m) / 65536 = ap (λ (n : ℕ). get_or (frame m ++ r) n 0) z ∙ end-byte 0 in
      rw (a, end-byte 1, end-byte 2) (omega (arith, crc-lt (headed m)))

  right : right_crc (frame m ++ r) ≡ true
  unfolding right_crc
  right = rw size (rw (front, end-crc) (eq-eqb (crc (headed m)) (crc (headed m)) refl))

  pub finished : unfinished (frame m ++ r) ≡ false
  unfolding unfinished
  finished = rw (starts, size) (le-ltb (length (frame m ++ r)) (length m + 6) (omega (arith, total)))

  pub stands : whole (frame m ++ r) ≡ true
  unfolding whole
  stands = rw (starts, size, right, le-leb (length m + 6) (length (frame m ++ r)) (omega (arith, total)))

  -- law: what is written is found at its place, whatever stands before and behind
  pub written-found : (b : List ℕ) → find_frame (b ++ (frame m ++ r)) (length b) ≡ found (length b) (length m)
  written-found b =
      let d : drop (length b) (b ++ (frame m ++ r)) ≡ frame m ++ r = drop-append_seam b (frame m ++ r) in
      let l : length b < length (b ++ (frame m ++ r)) = omega (arith, total, length-append b (frame m ++ r)) in
      hits (b ++ (frame m ++ r)) (length b) l (ap unfinished d ∙ finished) (ap whole d ∙ stands)
      ∙ ap (found (length b)) (ap length_of d ∙ size)

  pub message-at : (b : List ℕ) → take (length m) (drop (length b + 3) (b ++ (frame m ++ r))) ≡ m
  unfolding frame headed head
  message-at b =
      ap (take (length m)) (drop-append-add b (frame m ++ r) 3)
      ∙ ap (take (length m)) (append_assoc m (three (crc (headed m))) r)
      ∙ take-append_seam m (three (crc (headed m)) ++ r)

-- law: frames written one after another are read back in order, and then no frame
pub read_back : (b : List ℕ) (ms : List (List ℕ)) → Short ms → ReadsBack (b ++ stream ms) (length b) ms
unfolding ReadsBack Short stream
read_back b [] h = over (b ++ []) (length b) (omega (arith, length-append b []))
read_back b (m ∷ ms) h = (
  written-found m (stream ms) h.0 b,
  (
    message-at m (stream ms) h.0 b,
    rw (append_assoc b (frame m) (stream ms), length-append b (frame m), length-frame m) at (read_back (b ++ frame m) ms h.1),
  ),
)
