-- What stands at one place, and what that says of the first places from there on.
-- Assumes nothing.
use Prim.Native.Nat.{ℕ, ◌+◌, ◌-◌, ◌≤◌, ◌<◌}
use mathlib.Core.Bool.{Bool, true, false}
use mathlib.Core.List.{List}
use mathlib.Core.Path.{◌≡◌, refl}
use native.Mathlib.Omega.{arith}
use lib.Dec.{ltb}
use lib.ListN.{length, take, drop, length-drop}
use lib.Seq.{take_all}
use borrow.Author.Tests.{lt-ltb, le-ltb, lt-leb, ltb-true}
use Rattle.arith.proofs.Places.{round-hit, round-on, round-end, From, from}
use Rattle.arith.proofs.Tests.{both_first, both-second}
use Rattle.frame.specs.Frames.{candidate, length_of, unfinished, whole, stands_at, first_place, found, need, no_frame, answer_of, find_frame}
use Rattle.frame.specs.Private.{frame_at}

-- no place has both
pub apart : (t : List ℕ) → unfinished t ≡ true → whole t ≡ false
unfolding unfinished whole
apart t e =
    let h : length t < length_of t + 6 = ltb-true (length t) (length_of t + 6) (both-second (candidate t) (ltb (length t) (length_of t + 6)) e) in
    rw (both_first (candidate t) (ltb (length t) (length_of t + 6)) e, lt-leb (length_of t + 6) (length t) h)

-- ---- first places

module _ (p : List ℕ → Bool) (s : List ℕ) (i : ℕ) where
  pub here : i < length s → p (drop i s) ≡ true → first_place p s i ≡ i
  unfolding first_place stands_at
  here h e = round-hit (stands_at p s) i (length s) h e

  pub later : i < length s → p (drop i s) ≡ false → first_place p s i ≡ first_place p s (i + 1)
  unfolding first_place stands_at
  later h e = round-on (stands_at p s) i (length s) h e

  pub nowhere : length s ≤ i → first_place p s i ≡ i
  unfolding first_place
  nowhere h = round-end (stands_at p s) i (length s) h

  pub least : From (stands_at p s) i (length s - i) (first_place p s i)
  unfolding first_place
  least = from (stands_at p s) (length s - i) i

-- ---- a round of the search

-- what is lent from place i on
pub rest : (s : List ℕ) (i : ℕ) → take (length s - i) (drop i s) ≡ drop i s
rest s i = take_all (length s - i) (drop i s) (simp length-drop (omega arith))

pub over : (s : List ℕ) (i : ℕ) → length s ≤ i → find_frame s i ≡ no_frame
unfolding find_frame answer_of
over s i h = rw (nowhere unfinished s i h, nowhere whole s i h, le-ltb i i (omega arith), le-ltb i (length s) h)

module _ (s : List ℕ) (i : ℕ) (h : i < length s) where
  past : (p : List ℕ → Bool) → p (drop i s) ≡ false → i < first_place p s i
  past p e = rw (later p s i h e) (omega (arith, (least p s (i + 1)).low))

  pub waits : unfinished (drop i s) ≡ true → find_frame s i ≡ need i
  unfolding find_frame answer_of
  waits e = rw (here unfinished s i h e, lt-ltb i (first_place whole s i) (past whole (apart (drop i s) e)))

  pub hits : unfinished (drop i s) ≡ false → whole (drop i s) ≡ true → find_frame s i ≡ found i (length_of (drop i s))
  unfolding find_frame answer_of
  hits e w =
      let g : i < first_place unfinished s i = past unfinished e in
      rw (here whole s i h w, le-ltb (first_place unfinished s i) i (omega arith), lt-ltb i (length s) h)

  pub passes : unfinished (drop i s) ≡ false → whole (drop i s) ≡ false → find_frame s i ≡ find_frame s (i + 1)
  unfolding find_frame
  passes e w = rw (later unfinished s i h e, later whole s i h w)

  pub stops : ((frame_at (drop i s) i).refusal ≡ 20 → ⊥) → frame_at (drop i s) i ≡ find_frame s i
  unfolding frame_at
  stops n = go (unfinished (drop i s)) (whole (drop i s)) refl refl
    where
      go : (b w : Bool) → unfinished (drop i s) ≡ b → whole (drop i s) ≡ w → frame_at (drop i s) i ≡ find_frame s i
      go true w x y = rw (x, waits x)
      go false true x y = rw (x, y, hits x y)
      go false false x y = absurd (n (rw (x, y)))

  pub goes_on : (frame_at (drop i s) i).refusal ≡ 20 → find_frame s i ≡ find_frame s (i + 1)
  unfolding frame_at
  goes_on e = go (unfinished (drop i s)) (whole (drop i s)) refl refl
    where
      go : (b w : Bool) → unfinished (drop i s) ≡ b → whole (drop i s) ≡ w → find_frame s i ≡ find_frame s (i + 1)
      go true w x y = let z : ◌≡◌ {A = ℕ} 19 20 = rw x at e in absurd (omega arith)
      go false true x y = let z : ◌≡◌ {A = ℕ} 0 20 = rw (x, y) at e in absurd (omega arith)
      go false false x y = passes x y
