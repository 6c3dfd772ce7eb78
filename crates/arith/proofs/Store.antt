-- A row stored into another from a place on: one store a round, and one row behind another.
-- Assumes nothing.
use mathlib.Core.Path.{◌≡◌, sym, ap, ◌∙◌}
use mathlib.Core.List.{List, [], ◌++◌, append_assoc}
use Prim.Native.Nat.{ℕ, ◌+◌, ◌-◌, ◌≤◌, ◌<◌}
use native.Mathlib.Numerals.{add-one}
use native.Mathlib.Omega.{arith}
use lib.IntN.{ℤ, pos}
use lib.ListN.{length, take, drop, get_or, set, replicate, length-append}
use lib.Seq.{paste, paste-suc, take-paste, drop-paste, take-length, drop-drop}
use Rattle.arith.specs.Inner.{padded}
use Rattle.arith.proofs.Lists.{drop-replicate}

module _ {A : Type 0} (d : List A) (at : ℕ) (s : List A) where
  -- the loop's round: the row so far is t, and x is stored
  pub paste_more : (t : List A) (k : ℕ) (x z : A) → t ≡ paste d at s k → x ≡ get_or s k z → at + k < length d → k < length s → set t (at + k) x ≡ paste d at s (k + 1)
  paste_more t k x z e f h l = rw (e, f, add-one k) (paste-suc d at s k z h l)

  pub paste-paste : (t : List A) → at + length s + length t ≤ length d → paste (paste d at s (length s)) (at + length s) t (length t) ≡ paste d at (s ++ t) (length (s ++ t))
  paste-paste t h =
      let p : List A = paste d at s (length s) in
      let n : at + length (s ++ t) ≡ at + length s + length t = omega (arith, length-append s t) in
      ap (λ (l : List A). l ++ take (length t) t ++ drop (at + length s + length t) p) (take-paste d at s (length s) (omega arith) (omega arith) ∙ ap (λ (l : List A). take at d ++ l) (take-length s))
      ∙ ap (λ (l : List A). take at d ++ s ++ l ++ drop (at + length s + length t) p) (take-length t)
      ∙ ap (λ (l : List A). take at d ++ s ++ t ++ l)
      (sym (drop-drop (length t) (at + length s) p)
      ∙ ap (drop (length t)) (drop-paste d at s (length s) (omega arith) (omega arith))
      ∙ drop-drop (length t) (at + length s) d)
      ∙ sym
      (ap (λ (l : List A). take at d ++ l ++ drop (at + length (s ++ t)) d) (take-length (s ++ t))
      ∙ ap (λ (m : ℕ). take at d ++ (s ++ t) ++ drop m d) n
      ∙ ap (λ (l : List A). l ++ drop (at + length s + length t) d) (sym (append_assoc (take at d) s t)))

-- a row from place 0 of 96 zeros on
pub paste-padded : (s : List ℤ) → paste (padded []) 0 s (length s) ≡ padded s
unfolding padded
paste-padded s =
    let e : 96 - (0 + length s) ≡ 96 - length s = omega arith in
    ap (λ (l : List ℤ). l ++ drop (0 + length s) (replicate 96 (pos 0))) (take-length s)
    ∙ ap (λ (l : List ℤ). s ++ l) (drop-replicate 96 (0 + length s) (pos 0) ∙ ap (λ (m : ℕ). replicate m (pos 0)) e)
