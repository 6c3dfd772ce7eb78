-- Steps over windows find the frames of the whole stream.
-- Assumes nothing.
use Prim.Native.Nat.{ℕ, zero, suc, ◌+◌, ◌-◌, ◌≤◌, ◌<◌}
use mathlib.Core.Bool.{Bool, true, false}
use mathlib.Core.List.{List, [], ◌∷◌, ◌++◌, append-nil}
use mathlib.Core.Path.{◌≡◌, refl, sym, ap, ◌∙◌}
use native.Mathlib.Decide.{dec_le}
use native.Mathlib.Omega.{arith}
use lib.ListN.{length, drop, length-drop}
use lib.Seq.{drop-drop}
use Rattle.frame.specs.declared.Frame.{Frame}
use Rattle.frame.specs.Frames.{length_of, unfinished, whole, found, need, no_frame, find_frame}
use Rattle.frame.proofs.At.{over, waits, hits}
use Rattle.frame.proofs.Behind.{Clear, skip, up_to, found-stays, need-goes-on, Waiting, Standing, Nothing, Answer, waiting, standing, nothing, answer}
use Rattle.frame_search.specs.Steps.{step_by, step_of, frames_within, frames_from, reported, moved}
use Rattle.frame_search.proofs.Inside.{frame-inside, place_inside}

-- ---- a round of the whole search

module _ (s : List ℕ) where
  by-found : (k from f n : ℕ) → find_frame s from ≡ found f n → frames_within (suc k) s from ≡ found f n ∷ frames_within k s (f + n + 6)
  unfolding frames_within
  by-found k from f n e = rw e

  by-need : (k from u : ℕ) → find_frame s from ≡ need u → frames_within (suc k) s from ≡ frames_within k s (u + 1)
  unfolding frames_within
  by-need k from u e = rw e

  by-none : (k from : ℕ) → find_frame s from ≡ no_frame → frames_within (suc k) s from ≡ []
  unfolding frames_within
  by-none k from e = rw e

  -- more rounds than there are places change nothing
  enough : (k j from : ℕ) → length s < from + k → length s < from + j → frames_within k s from ≡ frames_within j s from
  unfolding frames_within
  enough zero zero from h l = refl
  enough zero (suc j) from h l = sym (by-none j from (over s from (omega arith)))
  enough (suc k) zero from h l = by-none k from (over s from (omega arith))
  enough (suc k) (suc j) from h l = go (λ p. enough k j p) (answer s from)
    where
      go : ((p : ℕ) → length s < p + k → length s < p + j → frames_within k s p ≡ frames_within j s p)
          → Answer s from → frames_within (suc k) s from ≡ frames_within (suc j) s from
      go same (waiting u w) =
          by-need k from u w.answer
          ∙ same (u + 1) (omega (arith, w.start)) (omega (arith, w.start))
          ∙ sym (by-need j from u w.answer)
      go same (standing f w) =
          let n : ℕ = length_of (drop f s) in
          by-found k from f n w.answer
          ∙ ap (λ (l : List Frame). found f n ∷ l) (same (f + n + 6) (omega (arith, w.start)) (omega (arith, w.start)))
          ∙ sym (by-found j from f n w.answer)
      go same (nothing w) = by-none k from w.answer ∙ sym (by-none j from w.answer)

  starts : (from : ℕ) → ((find_frame s from).refusal ≡ 20 → ⊥) → from ≤ (find_frame s from).at
  starts from n = go (answer s from)
    where
      go : Answer s from → from ≤ (find_frame s from).at
      go (waiting u w) = rw w.answer w.start
      go (standing f w) = rw w.answer w.start
      go (nothing w) = absurd (n (ap (λ r. r.refusal) w.answer))

  -- the rounds that are left at a place of s
  rounds : (from : ℕ) → from ≤ length s → frames_from s from ≡ frames_within (suc (length s - from)) s from
  unfolding frames_from
  rounds from h = let e : length s + 1 - from ≡ suc (length s - from) = omega arith in ap (λ (k : ℕ). frames_within k s from) e

  left : (k from : ℕ) → length s < from + k → frames_within k s from ≡ frames_from s from
  unfolding frames_from
  left k from h = enough k (length s + 1 - from) from h (omega arith)

  pub found_first : (from f n : ℕ) → find_frame s from ≡ found f n → frames_from s from ≡ found f n ∷ frames_from s (f + n + 6)
  found_first from f n e =
      let no : (find_frame s from).refusal ≡ 20 → ⊥ = λ z. let y : ◌≡◌ {A = ℕ} 0 20 = sym (ap (λ r. r.refusal) e) ∙ z in omega arith in
      let l : from ≤ f = rw e at (starts from no) in
      let h : f < length s = rw e at (place_inside s from no) in
      rounds from (omega arith)
      ∙ by-found (length s - from) from f n e
      ∙ ap (λ (r : List Frame). found f n ∷ r) (left (length s - from) (f + n + 6) (omega arith))

  pub need-first : (from u : ℕ) → find_frame s from ≡ need u → frames_from s from ≡ frames_from s (u + 1)
  need-first from u e =
      let no : (find_frame s from).refusal ≡ 20 → ⊥ = λ z. let y : ◌≡◌ {A = ℕ} 19 20 = sym (ap (λ r. r.refusal) e) ∙ z in omega arith in
      let l : from ≤ u = rw e at (starts from no) in
      let h : u < length s = rw e at (place_inside s from no) in
      rounds from (omega arith) ∙ by-need (length s - from) from u e ∙ left (length s - from) (u + 1) (omega arith)

  pub none_first : (from : ℕ) → find_frame s from ≡ no_frame → frames_from s from ≡ []
  unfolding frames_from frames_within
  none_first from e = go (length s + 1 - from)
    where
      go : (k : ℕ) → frames_within k s from ≡ []
      go zero = refl
      go (suc k) = by-none k from e

  pub same_answer : (from other : ℕ) → find_frame s from ≡ find_frame s other → frames_from s from ≡ frames_from s other
  same_answer from other e = go (answer s from)
    where
      go : Answer s from → frames_from s from ≡ frames_from s other
      go (waiting u w) = need-first from u w.answer ∙ sym (need-first other u (sym e ∙ w.answer))
      go (standing f w) =
          let n : ℕ = length_of (drop f s) in
          found_first from f n w.answer ∙ sym (found_first other f n (sym e ∙ w.answer))
      go (nothing w) = none_first from w.answer ∙ sym (none_first other (sym e ∙ w.answer))

-- ---- a step over the bytes w that are there, where x is what still comes

module _ (w x : List ℕ) (from : ℕ) (ended : Bool) (there : from ≤ length w) (all : ended ≡ true → x ≡ []) where
  -- law: what the search finds from a place is what the step reports and what it finds from the step's next place
  pub step_right : frames_from (w ++ x) from ≡ reported (step_of w from ended) ++ frames_from (w ++ x) (step_of w from ended).next
  unfolding step_of step_by reported
  step_right = go (answer w from) ended refl
    where
      go : Answer w from → (b : Bool) → ended ≡ b → frames_from (w ++ x) from ≡ reported (step_of w from ended) ++ frames_from (w ++ x) (step_of w from ended).next
      go (standing f v) b e = rw v.answer (found_first (w ++ x) from f (length_of (drop f w)) (found-stays w x from f (length_of (drop f w)) v.answer))
      go (nothing v) b e = rw v.answer (same_answer (w ++ x) from (length w) (up_to w x from (length w) there v.before))
      go (waiting u v) false e = rw (v.answer, e) (same_answer (w ++ x) from u (need-goes-on w x from u v.answer))
      go (waiting u v) true e =
          let q : find_frame (w ++ x) from ≡ need u = ap (λ (l : List ℕ). find_frame (w ++ l) from) (all e) ∙ ap (λ (l : List ℕ). find_frame l from) (append-nil w) ∙ v.answer in
          rw (v.answer, e) (need-first (w ++ x) from u q)

  -- its next place is no earlier one, and stands inside w or at its end
  pub step-inside : (from ≤ (step_of w from ended).next) × ((step_of w from ended).next ≤ length w)
  unfolding step_of step_by
  step-inside = go (answer w from) ended refl
    where
      go : Answer w from → (b : Bool) → ended ≡ b → (from ≤ (step_of w from ended).next) × ((step_of w from ended).next ≤ length w)
      go (standing f v) b e = rw v.answer (omega (arith, v.start), frame-inside w from f v)
      go (nothing v) b e = rw v.answer (there, omega arith)
      go (waiting u v) false e = rw (v.answer, e) (v.start, omega (arith, v.inside))
      go (waiting u v) true e = rw (v.answer, e) (omega (arith, v.start), omega (arith, v.inside))

-- ---- the window slides: the first k bytes of the stream go

module _ (s : List ℕ) (k : ℕ) (inside : k ≤ length s) where
  same-tail : (i : ℕ) → drop i (drop k s) ≡ drop (k + i) s
  same-tail i = drop-drop i k s

  clear-on : (i : ℕ) → Clear (drop k s) i → Clear s (k + i)
  clear-on i c =
      record {
        inside = omega (arith, c.inside, length-drop k s);
        not-unfinished = ap unfinished (sym (same-tail i)) ∙ c.not-unfinished;
        not-whole = ap whole (sym (same-tail i)) ∙ c.not-whole;
      }

  on : (from b : ℕ) → from ≤ b → ((i : ℕ) → from ≤ i → i < b → Clear (drop k s) i) → find_frame s (k + from) ≡ find_frame s (k + b)
  on from b l h =
      let e : k + from + (b - from) ≡ k + b = omega arith in
      skip s (k + from) (b - from)
      (λ i p q. let z : k + (i - k) ≡ i = omega arith in rw z at (clear-on (i - k) (h (i - k) (omega arith) (omega arith))))
      ∙ ap (find_frame s) e

  need-on : (from u : ℕ) → Waiting (drop k s) from u → find_frame s (k + from) ≡ need (k + u)
  need-on from u w =
      on from u w.start w.before ∙ waits s (k + u) (omega (arith, w.inside, length-drop k s)) (ap unfinished (sym (same-tail u)) ∙ w.here)

  found-on : (from f : ℕ) → Standing (drop k s) from f → find_frame s (k + from) ≡ found (k + f) (length_of (drop f (drop k s)))
  found-on from f w =
      on from f w.start w.before
      ∙ hits s (k + f) (omega (arith, w.inside, length-drop k s)) (ap unfinished (sym (same-tail f)) ∙ w.ready) (ap whole (sym (same-tail f)) ∙ w.here)
      ∙ ap (found (k + f)) (ap length_of (sym (same-tail f)))

  none-on : (from : ℕ) → Nothing (drop k s) from → find_frame s (k + from) ≡ no_frame
  none-on from w = go (dec_le from (length (drop k s)))
    where
      go : Dec (from ≤ length (drop k s)) → find_frame s (k + from) ≡ no_frame
      go (yes d) =
          on from (length (drop k s)) d w.before ∙ over s (k + length (drop k s)) (omega (arith, length-drop k s))
      go (no d) = over s (k + from) (omega (arith, length-drop k s))

  slide-within : (n from : ℕ) → frames_within n s (k + from) ≡ moved k (frames_within n (drop k s) from)
  unfolding frames_within moved
  slide-within zero from = refl
  slide-within (suc n) from = go (λ p. slide-within n p) (answer (drop k s) from)
    where
      go : ((p : ℕ) → frames_within n s (k + p) ≡ moved k (frames_within n (drop k s) p))
          → Answer (drop k s) from → frames_within (suc n) s (k + from) ≡ moved k (frames_within (suc n) (drop k s) from)
      go same (waiting u w) =
          let e : k + u + 1 ≡ k + (u + 1) = omega arith in
          by-need s n (k + from) (k + u) (need-on from u w)
          ∙ ap (frames_within n s) e
          ∙ same (u + 1)
          ∙ sym (ap (moved k) (by-need (drop k s) n from u w.answer))
      go same (standing f w) =
          let m : ℕ = length_of (drop f (drop k s)) in
          let e : k + f + m + 6 ≡ k + (f + m + 6) = omega arith in
          by-found s n (k + from) (k + f) m (found-on from f w)
          ∙ ap (λ (l : List Frame). found (k + f) m ∷ l) (ap (frames_within n s) e ∙ same (f + m + 6))
          ∙ sym (ap (moved k) (by-found (drop k s) n from f m w.answer))
      go same (nothing w) = by-none s n (k + from) (none-on from w) ∙ sym (ap (moved k) (by-none (drop k s) n from w.answer))

  -- law: the frames from a place on are those of the bytes behind the first k, k places further on
  pub slide-right : (from : ℕ) → frames_from s (k + from) ≡ moved k (frames_from (drop k s) from)
  unfolding frames_from
  slide-right from =
      let e : length s + 1 - (k + from) ≡ length (drop k s) + 1 - from = omega (arith, length-drop k s) in
      ap (λ (n : ℕ). frames_within n s (k + from)) e ∙ slide-within (length (drop k s) + 1 - from) from
