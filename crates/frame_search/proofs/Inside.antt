-- A step's places stand inside the bytes that are there.
-- Assumes nothing.
use Prim.Native.Nat.{ℕ, ◌+◌, ◌≤◌, ◌<◌}
use mathlib.Core.List.{List}
use mathlib.Core.Path.{◌≡◌, sym, ap, ◌∙◌}
use native.Mathlib.Omega.{arith}
use lib.ListN.{length, drop, length-drop}
use Rattle.frame.specs.Frames.{length_of, find_frame}
use Rattle.frame.proofs.Behind.{Standing, Answer, waiting, standing, nothing, answer}
use Rattle.frame.proofs.Words.{parts-of}

module _ (s : List ℕ) (from : ℕ) where
  pub frame-inside : (f : ℕ) → Standing s from f → f + length_of (drop f s) + 6 ≤ length s
  frame-inside f w =
      let l : length_of (drop f s) + 6 ≤ length (drop f s) = (parts-of (drop f s) w.here).long in
      omega (arith, l, length-drop f s, w.inside)

  pub found_inside : (find_frame s from).refusal ≡ 0 → (find_frame s from).at + (find_frame s from).length + 6 ≤ length s
  found_inside e = go (answer s from)
    where
      go : Answer s from → (find_frame s from).at + (find_frame s from).length + 6 ≤ length s
      go (waiting u w) = let z : ◌≡◌ {A = ℕ} 0 19 = sym e ∙ ap (λ r. r.refusal) w.answer in absurd (omega arith)
      go (standing f w) = rw w.answer (frame-inside f w)
      go (nothing w) = let z : ◌≡◌ {A = ℕ} 0 20 = sym e ∙ ap (λ r. r.refusal) w.answer in absurd (omega arith)

  pub place_inside : ((find_frame s from).refusal ≡ 20 → ⊥) → (find_frame s from).at < length s
  place_inside n = go (answer s from)
    where
      go : Answer s from → (find_frame s from).at < length s
      go (waiting u w) = rw w.answer w.inside
      go (standing f w) = rw w.answer w.inside
      go (nothing w) = absurd (n (ap (λ r. r.refusal) w.answer))
