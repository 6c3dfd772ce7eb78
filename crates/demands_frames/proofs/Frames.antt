-- Request A1's statements hold of the answers by first places.
-- Assumes nothing.
use Prim.Native.Nat.{ℕ, ◌+◌, ◌≤◌, ◌<◌}
use mathlib.Core.Bool.{true}
use mathlib.Core.List.{List, []}
use mathlib.Core.Path.{◌≡◌, refl, sym, ap, subst, ◌∙◌}
use native.Mathlib.Decide.{dec_lt}
use native.Mathlib.Omega.{arith}
use lib.ListN.{length, drop, length-append, drop_of_length-le}
use lib.Seq.{get_or-drop}
use Rattle.arith.proofs.Tests.{false-ne-true}
use Rattle.frame_crc.specs.Crc.{reduced, crc_bit, crc_bits, crc_from, crc}
use Rattle.frame.specs.Frames.{head, three, headed, frame, length_of, unfinished, whole, found, need, no_frame, find_frame}
use Rattle.frame.specs.Words.{Bytes, Calls, Stands}
use Rattle.frame.proofs.Start as start
use Rattle.frame.proofs.Behind.{Clear, Waiting, Standing, Nothing, Answer, waiting, standing, nothing, answer}
use Rattle.frame.proofs.Behind as behind
use Rattle.frame.proofs.Lengths.{length-frame}
use Rattle.frame.proofs.Words.{unfinished-calls, calls-unfinished, whole-stands, stands-whole, stands-finished, stands-size}
use Rattle.frame_writer.proofs.Put.{too_long, no_room, accepted}
use Rattle.demands_frames.specs.Frames.{WrittenFound, ReadBack, FoundStays, NeedGoesOn, NeedNotEarlier, Empty, FirstAt, NothingFrom, Exactly, WriterRefusals, PublishedFrames}

pub written-found : WrittenFound
written-found before m more h = start.written-found m more h before

pub read_back : ReadBack
read_back = start.read_back

pub found-stays : FoundStays
found-stays = behind.found-stays

pub need-goes-on : NeedGoesOn
need-goes-on = behind.need-goes-on

pub need-not-earlier : NeedNotEarlier
need-not-earlier = behind.need-not-earlier

-- ---- one place

module _ (s : List ℕ) (i : ℕ) where
  past_end : length s ≤ i → Empty s i
  unfolding Calls
  past_end h =
      let e : drop i s ≡ [] = drop_of_length-le s {i = i} h in
      record {
        no-frame = λ n w. omega (arith, ap length (sym e ∙ w.written), length-append (frame w.message) w.behind, length-frame w.message);
        no_call = λ k. rw e at k;
      }

  clear-empty : Clear s i → Empty s i
  clear-empty k =
      record {
        no-frame = λ n w. false-ne-true (sym k.not-whole ∙ stands-whole (drop i s) n w);
        no_call = λ w. false-ne-true (sym k.not-unfinished ∙ calls-unfinished (drop i s) w);
      }

  not-unfinished : Empty s i → unfinished (drop i s) ≡ true → ⊥
  not-unfinished k e = k.no_call (unfinished-calls (drop i s) e)

  not-whole : Bytes s → Empty s i → whole (drop i s) ≡ true → ⊥
  not-whole b k e = k.no-frame (length_of (drop i s)) (whole-stands (drop i s) (λ j. rw (get_or-drop i s j 0) (b (i + j))) e)

  stands-inside : (n : ℕ) → Stands (drop i s) n → i < length s
  stands-inside n w = go (dec_lt i (length s))
    where
      go : Dec (i < length s) → i < length s
      go (yes d) = d
      go (no d) = absurd ((past_end (omega arith)).no-frame n w)

  calls-inside : Calls (drop i s) → i < length s
  calls-inside w = go (dec_lt i (length s))
    where
      go : Dec (i < length s) → i < length s
      go (yes d) = d
      go (no d) = absurd ((past_end (omega arith)).no_call w)

-- ---- the three answers

module _ (s : List ℕ) (from : ℕ) (bytes : Bytes s) where
  tail-bytes : (i : ℕ) → Bytes (drop i s)
  tail-bytes i j = rw (get_or-drop i s j 0) (bytes (i + j))

  needed : (u : ℕ) → Waiting s from u → FirstAt Calls s from u
  needed u w =
      record { start = w.start; here = unfinished-calls (drop u s) w.here; before = λ i l g. clear-empty s i (w.before i l g) }

  stood : (f : ℕ) → Standing s from f → FirstAt (λ (t : List ℕ). Stands t (length_of (drop f s))) s from f
  stood f w =
      record { start = w.start; here = whole-stands (drop f s) (tail-bytes f) w.here; before = λ i l g. clear-empty s i (w.before i l g) }

  emptied : Nothing s from → NothingFrom s from
  emptied w i l = go (dec_lt i (length s))
    where
      go : Dec (i < length s) → Empty s i
      go (yes d) = clear-empty s i (w.before i l d)
      go (no d) = past_end s i (omega arith)

  need-then : (u : ℕ) → find_frame s from ≡ need u → FirstAt Calls s from u
  need-then u e = go (answer s from)
    where
      go : Answer s from → FirstAt Calls s from u
      go (waiting v w) = let q : v ≡ u = ap (λ r. r.at) (sym w.answer ∙ e) in rw q at (needed v w)
      go (standing g w) = let z : ◌≡◌ {A = ℕ} 19 0 = ap (λ r. r.refusal) (sym e ∙ w.answer) in absurd (omega arith)
      go (nothing w) = let z : ◌≡◌ {A = ℕ} 19 20 = ap (λ r. r.refusal) (sym e ∙ w.answer) in absurd (omega arith)

  found-then : (f n : ℕ) → find_frame s from ≡ found f n → FirstAt (λ (t : List ℕ). Stands t n) s from f
  found-then f n e = go (answer s from)
    where
      go : Answer s from → FirstAt (λ (t : List ℕ). Stands t n) s from f
      go (waiting v w) = let z : ◌≡◌ {A = ℕ} 0 19 = ap (λ r. r.refusal) (sym e ∙ w.answer) in absurd (omega arith)
      go (standing g w) =
          let q : g ≡ f = ap (λ r. r.at) (sym w.answer ∙ e) in
          let l : length_of (drop g s) ≡ n = ap (λ r. r.length) (sym w.answer ∙ e) in
          subst (λ (k : ℕ). FirstAt (λ (t : List ℕ). Stands t n) s from k) q (subst (λ (k : ℕ). FirstAt (λ (t : List ℕ). Stands t k) s from g) l (stood g w))
      go (nothing w) = let z : ◌≡◌ {A = ℕ} 0 20 = ap (λ r. r.refusal) (sym e ∙ w.answer) in absurd (omega arith)

  none_then : find_frame s from ≡ no_frame → NothingFrom s from
  none_then e = go (answer s from)
    where
      go : Answer s from → NothingFrom s from
      go (waiting v w) = let z : ◌≡◌ {A = ℕ} 20 19 = ap (λ r. r.refusal) (sym e ∙ w.answer) in absurd (omega arith)
      go (standing g w) = let z : ◌≡◌ {A = ℕ} 20 0 = ap (λ r. r.refusal) (sym e ∙ w.answer) in absurd (omega arith)
      go (nothing w) = emptied w

  -- the places of two answers are the same, since each is empty before the other
  need-when : (u : ℕ) → FirstAt Calls s from u → find_frame s from ≡ need u
  need-when u k = go (answer s from)
    where
      inside : u < length s
      inside = calls-inside s u k.here

      go : Answer s from → find_frame s from ≡ need u
      go (waiting v w) = w.answer ∙ ap need (place (dec_lt v u) (dec_lt u v))
        where
          place : Dec (v < u) → Dec (u < v) → v ≡ u
          place (yes d) e = absurd (not-unfinished s v (k.before v w.start d) w.here)
          place (no d) (yes e) = absurd ((clear-empty s u (w.before u k.start e)).no_call k.here)
          place (no d) (no e) = omega arith
      go (standing g w) = absurd (apart (dec_lt g u) (dec_lt u g))
        where
          apart : Dec (g < u) → Dec (u < g) → ⊥
          apart (yes d) e = not-whole s g bytes (k.before g w.start d) w.here
          apart (no d) (yes e) = (clear-empty s u (w.before u k.start e)).no_call k.here
          apart (no d) (no e) =
              let q : g ≡ u = omega arith in
              false-ne-true (sym (rw q at w.ready) ∙ calls-unfinished (drop u s) k.here)
      go (nothing w) = absurd ((emptied w u k.start).no_call k.here)

  found-when : (f n : ℕ) → FirstAt (λ (t : List ℕ). Stands t n) s from f → find_frame s from ≡ found f n
  found-when f n k = go (answer s from)
    where
      go : Answer s from → find_frame s from ≡ found f n
      go (waiting v w) = absurd (apart (dec_lt v f) (dec_lt f v))
        where
          apart : Dec (v < f) → Dec (f < v) → ⊥
          apart (yes d) e = not-unfinished s v (k.before v w.start d) w.here
          apart (no d) (yes e) = (clear-empty s f (w.before f k.start e)).no-frame n k.here
          apart (no d) (no e) =
              let q : v ≡ f = omega arith in
              false-ne-true (sym (stands-finished (drop f s) n k.here) ∙ (rw q at w.here))
      go (standing g w) = w.answer ∙ same (place (dec_lt g f) (dec_lt f g))
        where
          place : Dec (g < f) → Dec (f < g) → g ≡ f
          place (yes d) e = absurd (not-whole s g bytes (k.before g w.start d) w.here)
          place (no d) (yes e) = absurd ((clear-empty s f (w.before f k.start e)).no-frame n k.here)
          place (no d) (no e) = omega arith

          same : g ≡ f → found g (length_of (drop g s)) ≡ found f n
          same q = ap (λ (j : ℕ). found j (length_of (drop j s))) q ∙ ap (found f) (stands-size (drop f s) n k.here)
      go (nothing w) = absurd ((emptied w f k.start).no-frame n k.here)

  none-when : NothingFrom s from → find_frame s from ≡ no_frame
  none-when k = go (answer s from)
    where
      go : Answer s from → find_frame s from ≡ no_frame
      go (waiting v w) = absurd (not-unfinished s v (k v w.start) w.here)
      go (standing g w) = absurd (not-whole s g bytes (k g w.start) w.here)
      go (nothing w) = w.answer

  pub exactly : Exactly s from
  exactly =
      record {
        found-then = found-then;
        found-when = found-when;
        need-then = need-then;
        need-when = need-when;
        none_then = none_then;
        none-when = none-when;
      }

pub writer-refusals : WriterRefusals
writer-refusals = record { long = too_long; narrow = no_room; written = accepted }

pub published-frames : PublishedFrames
unfolding reduced crc_bit crc_bits crc_from crc head three headed frame
published-frames = record { digits = refl; frame1005 = refl }
