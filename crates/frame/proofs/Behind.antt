-- What bytes added behind can change: nothing before the first unfinished candidate.
-- Assumes nothing.
use Prim.Native.Nat.{ℕ, zero, suc, ◌+◌, ◌-◌, ◌≤◌, ◌<◌}
use mathlib.Core.Bool.{Bool, true, false, ◌&&◌}
use mathlib.Core.List.{List, ◌++◌}
use mathlib.Core.Path.{◌≡◌, refl, sym, ap, ◌∙◌}
use native.Mathlib.Omega.{arith}
use native.Mathlib.Nat.{add-zero}
use native.Mathlib.Decide.{dec_lt}
use lib.Dec.{ltb, eqb}
use lib.ListN.{length, get_or, drop, length-drop, length-append, get_or-append, get_or-eq_default}
use lib.Seq.{take-append-le, drop-append-le}
use borrow.Author.Tests.{le-ltb, le-leb, ltb-false}
use Rattle.arith.proofs.Tests.{false-ne-true}
use Rattle.frame.specs.Frames.{candidate, length_of, three_at, right_crc, unfinished, whole, found, need, no_frame, find_frame}
use Rattle.frame.proofs.At.{over, waits, hits, passes}

-- ---- one place

module _ (t x : List ℕ) where
  kept : (k : ℕ) → k < length t → get_or (t ++ x) k 0 ≡ get_or t k 0
  kept k h = get_or-append t x 0 k h

  -- no candidate, and none with more bytes
  none_more : 0 < length t → candidate t ≡ false → candidate (t ++ x) ≡ false
  unfolding candidate
  none_more h e = rw (kept 0 h) (go (eqb (get_or t 0 0) 211) e)
    where
      second : ltb (get_or t 1 0) 4 ≡ false → 1 < length t
      second f = at (dec_lt 1 (length t))
        where
          at : Dec (1 < length t) → 1 < length t
          at (yes d) = d
          at (no d) = let z : get_or t 1 0 ≡ 0 = get_or-eq_default t 0 (omega arith) in absurd (omega (arith, ltb-false (get_or t 1 0) 4 f))

      go : (b : Bool) → (b && ltb (get_or t 1 0) 4) ≡ false → (b && ltb (get_or (t ++ x) 1 0) 4) ≡ false
      go true f = rw (kept 1 (second f)) f
      go false f = refl

  module _ (fits : length_of t + 6 ≤ length t) where
    same-candidate : candidate (t ++ x) ≡ candidate t
    unfolding candidate
    same-candidate = rw (kept 0 (omega arith), kept 1 (omega arith))

    same_length : length_of (t ++ x) ≡ length_of t
    unfolding length_of
    same_length = rw (kept 1 (omega arith), kept 2 (omega arith))

    same-crc : right_crc (t ++ x) ≡ right_crc t
    unfolding right_crc three_at
    same-crc =
        rw same_length
        (rw (take-append-le (length_of t + 3) t x (omega arith), kept (length_of t + 3) (omega arith), kept (length_of t + 3 + 1) (omega arith), kept (length_of t + 3 + 2) (omega arith)))

    longer : length_of t + 6 ≤ length (t ++ x)
    longer = omega (arith, length-append t x)

    same-unfinished : unfinished (t ++ x) ≡ unfinished t
    unfolding unfinished
    same-unfinished =
        rw (same-candidate, same_length, le-ltb (length t) (length_of t + 6) fits, le-ltb (length (t ++ x)) (length_of t + 6) longer)

    same_whole : whole (t ++ x) ≡ whole t
    unfolding whole
    same_whole =
        rw (same-candidate, same_length, same-crc, le-leb (length_of t + 6) (length t) fits, le-leb (length_of t + 6) (length (t ++ x)) longer)

  -- what is not unfinished stays as it is
  pub record Settled : Type 0 where
    pub finished : unfinished (t ++ x) ≡ false
    pub same : whole (t ++ x) ≡ whole t
    pub size : whole t ≡ true → length_of (t ++ x) ≡ length_of t

  pub settled : 0 < length t → unfinished t ≡ false → Settled
  unfolding unfinished whole
  settled h e = go (candidate t) refl
    where
      go : (b : Bool) → candidate t ≡ b → Settled
      go true c =
          let f : length_of t + 6 ≤ length t = ltb-false (length t) (length_of t + 6) (rw c at e) in
          record { finished = same-unfinished f ∙ e; same = same_whole f; size = λ w. same_length f }
      go false c =
          record { finished = rw (none_more h c); same = rw (none_more h c, c); size = λ w. absurd (false-ne-true (rw c at w)) }

-- ---- all places up to the answer's

pub record Clear (s : List ℕ) (i : ℕ) : Type 0 where
  pub inside : i < length s
  pub not-unfinished : unfinished (drop i s) ≡ false
  pub not-whole : whole (drop i s) ≡ false

pub skip : (s : List ℕ) (from n : ℕ) → ((i : ℕ) → from ≤ i → i < from + n → Clear s i) → find_frame s from ≡ find_frame s (from + n)
skip s from zero h = ap (find_frame s) (sym (add-zero from))
skip s from (suc n) h =
    let k : Clear s (from + n) = h (from + n) (omega arith) (omega arith) in
    skip s from n (λ i l g. h i l (omega arith))
    ∙ passes s (from + n) k.inside k.not-unfinished k.not-whole
    ∙ ap (find_frame s) (omega arith)

clear-more : (s x : List ℕ) (i : ℕ) → Clear s i → Clear (s ++ x) i
clear-more s x i k =
    let d : drop i (s ++ x) ≡ drop i s ++ x = drop-append-le i s x (omega (arith, k.inside)) in
    let z = settled (drop i s) x (simp length-drop (omega (arith, k.inside))) k.not-unfinished in
    record {
      inside = omega (arith, k.inside, length-append s x);
      not-unfinished = ap unfinished d ∙ z.finished;
      not-whole = ap whole d ∙ z.same ∙ k.not-whole;
    }

-- ---- what an answer says of the places from its start on

pub record Waiting (s : List ℕ) (from u : ℕ) : Type 0 where
  pub start : from ≤ u
  pub inside : u < length s
  pub before : (i : ℕ) → from ≤ i → i < u → Clear s i
  pub here : unfinished (drop u s) ≡ true
  pub answer : find_frame s from ≡ need u

pub record Standing (s : List ℕ) (from f : ℕ) : Type 0 where
  pub start : from ≤ f
  pub inside : f < length s
  pub before : (i : ℕ) → from ≤ i → i < f → Clear s i
  pub ready : unfinished (drop f s) ≡ false
  pub here : whole (drop f s) ≡ true
  pub answer : find_frame s from ≡ found f (length_of (drop f s))

pub record Nothing (s : List ℕ) (from : ℕ) : Type 0 where
  pub before : (i : ℕ) → from ≤ i → i < length s → Clear s i
  pub answer : find_frame s from ≡ no_frame

pub data Answer (s : List ℕ) (from : ℕ) : Type 0 where
  waiting : (u : ℕ) → Waiting s from u → Answer s from
  standing : (f : ℕ) → Standing s from f → Answer s from
  nothing : Nothing s from → Answer s from

module _ (s : List ℕ) where
  -- a clear place put before
  one_more : (from : ℕ) (b : ℕ) → Clear s from → ((i : ℕ) → from + 1 ≤ i → i < b → Clear s i) → (i : ℕ) → from ≤ i → i < b → Clear s i
  one_more from b k h i l g = go (dec_lt from i)
    where
      go : Dec (from < i) → Clear s i
      go (yes d) = h i (omega arith) g
      go (no d) = let e : from ≡ i = omega arith in rw e at k

  earlier : (from : ℕ) → Clear s from → Answer s (from + 1) → Answer s from
  earlier from k (waiting u w) =
      waiting u
      (record {
        start = omega (arith, w.start);
        inside = w.inside;
        before = one_more from u k w.before;
        here = w.here;
        answer = passes s from k.inside k.not-unfinished k.not-whole ∙ w.answer;
      })
  earlier from k (standing f w) =
      standing f
      (record {
        start = omega (arith, w.start);
        inside = w.inside;
        before = one_more from f k w.before;
        ready = w.ready;
        here = w.here;
        answer = passes s from k.inside k.not-unfinished k.not-whole ∙ w.answer;
      })
  earlier from k (nothing w) =
      nothing
      (record {
        before = one_more from (length s) k w.before;
        answer = passes s from k.inside k.not-unfinished k.not-whole ∙ w.answer;
      })

  at-end : (from : ℕ) → length s ≤ from → Answer s from
  at-end from h = nothing (record { before = λ i l g. absurd (omega arith); answer = over s from h })

  at_place : (from : ℕ) → from < length s → Answer s (from + 1) → Answer s from
  at_place from h a = go (unfinished (drop from s)) (whole (drop from s)) refl refl
    where
      go : (b w : Bool) → unfinished (drop from s) ≡ b → whole (drop from s) ≡ w → Answer s from
      go true w x y =
          waiting from (record { start = omega arith; inside = h; before = λ i l g. absurd (omega arith); here = x; answer = waits s from h x })
      go false true x y =
          standing from
          (record { start = omega arith; inside = h; before = λ i l g. absurd (omega arith); ready = x; here = y; answer = hits s from h x y })
      go false false x y = earlier from (record { inside = h; not-unfinished = x; not-whole = y }) a

  reach : (n from : ℕ) → length s ≤ from + n → Answer s from
  reach zero from h = at-end from (omega arith)
  reach (suc n) from h = go (dec_lt from (length s)) (reach n (from + 1) (omega arith))
    where
      go : Dec (from < length s) → Answer s (from + 1) → Answer s from
      go (yes d) a = at_place from d a
      go (no d) a = at-end from (omega arith)

  pub answer : (from : ℕ) → Answer s from
  answer from = reach (length s) from (omega arith)

-- ---- laws

module _ (s x : List ℕ) (from : ℕ) where
  -- the places before b that are clear are passed
  pub up_to : (b : ℕ) → from ≤ b → ((i : ℕ) → from ≤ i → i < b → Clear s i) → find_frame (s ++ x) from ≡ find_frame (s ++ x) b
  up_to b l h =
      let e : from + (b - from) ≡ b = omega arith in
      skip (s ++ x) from (b - from) (λ i p q. clear-more s x i (h i p (omega arith))) ∙ ap (find_frame (s ++ x)) e

  more-found : (f : ℕ) → Standing s from f → find_frame (s ++ x) from ≡ found f (length_of (drop f s))
  more-found f w =
      let d : drop f (s ++ x) ≡ drop f s ++ x = drop-append-le f s x (omega (arith, w.inside)) in
      let z = settled (drop f s) x (simp length-drop (omega (arith, w.inside))) w.ready in
      up_to f w.start w.before
      ∙ hits (s ++ x) f (omega (arith, w.inside, length-append s x)) (ap unfinished d ∙ z.finished) (ap whole d ∙ z.same ∙ w.here)
      ∙ ap (found f) (ap length_of d ∙ z.size w.here)

  -- an answer 0 stays
  pub found-stays : (f n : ℕ) → find_frame s from ≡ found f n → find_frame (s ++ x) from ≡ found f n
  found-stays f n e = go (answer s from)
    where
      go : Answer s from → find_frame (s ++ x) from ≡ found f n
      go (waiting u w) = let z : ◌≡◌ {A = ℕ} 0 19 = ap (λ r. r.refusal) (sym e ∙ w.answer) in absurd (omega arith)
      go (standing g w) = more-found g w ∙ sym w.answer ∙ e
      go (nothing w) = let z : ◌≡◌ {A = ℕ} 0 20 = ap (λ r. r.refusal) (sym e ∙ w.answer) in absurd (omega arith)

  -- after NEED the search goes on from its place
  pub need-goes-on : (u : ℕ) → find_frame s from ≡ need u → find_frame (s ++ x) from ≡ find_frame (s ++ x) u
  need-goes-on u e = go (answer s from)
    where
      go : Answer s from → find_frame (s ++ x) from ≡ find_frame (s ++ x) u
      go (waiting v w) = up_to v w.start w.before ∙ ap (find_frame (s ++ x)) (ap (λ r. r.at) (sym w.answer ∙ e))
      go (standing g w) = let z : ◌≡◌ {A = ℕ} 19 0 = ap (λ r. r.refusal) (sym e ∙ w.answer) in absurd (omega arith)
      go (nothing w) = let z : ◌≡◌ {A = ℕ} 19 20 = ap (λ r. r.refusal) (sym e ∙ w.answer) in absurd (omega arith)

  -- and no answer names an earlier place
  pub need-not-earlier : (u : ℕ) → find_frame s from ≡ need u → ((find_frame (s ++ x) from).refusal ≡ 20 → ⊥) → u ≤ (find_frame (s ++ x) from).at
  need-not-earlier u e n = rw (need-goes-on u e) (go (answer (s ++ x) u))
    where
      go : Answer (s ++ x) u → u ≤ (find_frame (s ++ x) u).at
      go (waiting v w) = rw w.answer w.start
      go (standing g w) = rw w.answer w.start
      go (nothing w) = absurd (n (ap (λ r. r.refusal) (need-goes-on u e ∙ w.answer)))
