-- The loop over the fields of a file, the place of its points, and where its message ends.
-- Assumes nothing.
use mathlib.Core.Path.{◌≡◌, refl, sym, ap, ◌∙◌}
use mathlib.Core.Bool.{Bool, true, false, cond}
use mathlib.Core.List.{List, [], ◌∷◌}
use Prim.Native.Nat.{ℕ, zero, suc, ◌+◌, ◌-◌, ◌*◌, ◌/◌, ◌≤◌, ◌<◌, min}
use native.Mathlib.Nat.{not-suc-le-zero, le_of_suc-le-suc, min-eq_left, min-eq_right}
use native.Mathlib.Decide.{dec_le}
use native.Mathlib.Omega.{arith}
use lib.ListN.{length, get_or, take, drop, length-drop, drop_of_length-le}
use lib.Seq.{take_all, drop-drop, get_or-take, get_or-drop}
use lib.Dec.{leb}
use borrow.Author.Tests.{le-leb, lt-leb}
use Rattle.std.specs.List.{list_all}
use Rattle.std.specs.Simd.{first_chunks}
use Rattle.sample_numbers.specs.Number.{number}
use Rattle.sample_numbers.specs.Inner.{number_at}
use Rattle.sample_numbers.proofs.Number.{number_lt}
use Rattle.sample_files.specs.declared.SamplePoint.{SamplePoint}
use Rattle.sample_files.specs.File.{point_size, message_end, rest_of, point_of, points_in, points_of, no_point}
use Rattle.sample_files.specs.Inner.{end_in, point_at}
use Rattle.sample_files.specs.Private.{point_head, point_heads}

-- the part of a slice from a on
pub tail : (s : List ℕ) (a : ℕ) → take (length s - a) (drop a s) ≡ drop a s
tail s a = take_all (length s - a) (drop a s) (omega (arith, length-drop a s))

-- ---- the fields, one chunk each

head-of : (s : List ℕ) → point_head (take point_size s) ≡ point_head s
unfolding point_head number
head-of s =
    rw (get_or-take point_size s 0 0 (omega arith), get_or-drop 1 (take point_size s) 0 0, get_or-drop 1 (take point_size s) 1 0, get_or-take point_size s 1 0 (omega arith), get_or-take point_size s 2 0 (omega arith), get_or-drop 1 s 0 0, get_or-drop 1 s 1 0)

pub heads_are : (n : ℕ) (s : List ℕ) → list_all point_head (first_chunks point_size n s) ≡ point_heads n s
unfolding point_heads
heads_are zero s = refl
heads_are (suc n) s = rw (head-of s, heads_are n (drop point_size s))

-- ---- where the message ends, and the points behind it

module _ (f : List ℕ) where
  pub end-cut : length f ≤ message_end f → end_in f ≡ length f
  unfolding end_in
  end-cut h = min-eq_right h

  pub end_whole : message_end f ≤ length f → end_in f ≡ message_end f
  unfolding end_in
  end_whole h = min-eq_left h

  pub end-is : min (length f) (3 + number_at f 1 2) ≡ end_in f
  unfolding end_in number_at
  end-is = by (dec_le 3 (length f))
    where
      by : Dec (3 ≤ length f) → min (length f) (3 + cond (leb 3 (length f)) (number 2 (drop 1 f)) 0) ≡ min (3 + number 2 (drop 1 f)) (length f)
      by (yes h) = rw (le-leb 3 (length f) h) (omega arith)
      by (no h) = rw (lt-leb 3 (length f) (omega arith)) (omega arith)

  pub size-low : ((i : ℕ) → get_or f i 0 < 256) → number_at f 1 2 < 65536
  unfolding number_at
  size-low b = by (leb 3 (length f))
    where
      by : (t : Bool) → cond t (number 2 (drop 1 f)) 0 < 65536
      by true = number_lt (drop 1 f) (λ i. rw (get_or-drop 1 f i 0) (b (1 + i))) 2
      by false = omega arith

  pub rest-is : drop (end_in f) f ≡ rest_of f
  unfolding rest_of
  rest-is = by (dec_le (message_end f) (length f))
    where
      by : Dec (message_end f ≤ length f) → drop (end_in f) f ≡ drop (message_end f) f
      by (yes h) = rw (end_whole h)
      by (no h) =
          rw (end-cut (omega arith))
          (drop_of_length-le f {i = length f} (omega arith) ∙ sym (drop_of_length-le f {i = message_end f} (omega arith)))

  pub end-within : end_in f ≤ length f
  end-within = by (dec_le (message_end f) (length f))
    where
      by : Dec (message_end f ≤ length f) → end_in f ≤ length f
      by (yes h) = rw (end_whole h) h
      by (no h) = rw (end-cut (omega arith)) (omega arith)

  pub length_rest : length (rest_of f) ≡ length f - end_in f
  length_rest = sym (ap length rest-is) ∙ length-drop (end_in f) f

pub length-points-in : (n : ℕ) (s : List ℕ) → length (points_in n s) ≡ n
unfolding points_in
length-points-in zero s = refl
length-points-in (suc n) s = ap suc (length-points-in n (drop point_size s))

pub point-in : (n : ℕ) (s : List ℕ) (i : ℕ) (d : SamplePoint) → i < n → get_or (points_in n s) i d ≡ point_of (drop (point_size * i) s)
unfolding points_in
point-in zero s i d h = absurd (not-suc-le-zero h)
point-in (suc n) s zero d h = refl
point-in (suc n) s (suc i) d h =
    let e : point_size + point_size * i ≡ point_size * suc i = omega arith in
    point-in n (drop point_size s) i d (le_of_suc-le-suc h) ∙ ap point_of (drop-drop (point_size * i) point_size s ∙ ap (λ (k : ℕ). drop k s) e)

module _ (f : List ℕ) where
  pub count-is : (length f - end_in f) / point_size ≡ length (points_of f)
  unfolding points_of
  count-is = sym (length-points-in (length (rest_of f) / point_size) (rest_of f) ∙ ap (λ (n : ℕ). n / point_size) (length_rest f))

  pub point-is : (i : ℕ) → i < length (points_of f) → point_of (drop (end_in f + point_size * i) f) ≡ point_at f i
  unfolding points_of point_at
  point-is i h =
      let n : ℕ = length (rest_of f) / point_size in
      sym
      (point-in n (rest_of f) i no_point (omega (arith, h, length-points-in n (rest_of f)))
      ∙ ap (λ (l : List ℕ). point_of (drop (point_size * i) l)) (sym (rest-is f))
      ∙ ap point_of (drop-drop (point_size * i) (end_in f) f))

  pub point-none : (i : ℕ) → length (points_of f) ≤ i → no_point ≡ point_at f i
  unfolding point_at
  point-none i h = sym (beyond (points_of f) i h)
    where
      beyond : (ps : List SamplePoint) (k : ℕ) → length ps ≤ k → get_or ps k no_point ≡ no_point
      beyond [] k h = refl
      beyond (p ∷ ps) zero h = absurd (not-suc-le-zero h)
      beyond (p ∷ ps) (suc k) h = beyond ps k (le_of_suc-le-suc h)
