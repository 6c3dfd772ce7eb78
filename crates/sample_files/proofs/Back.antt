-- What is read back from the bytes of a file: its message and its points.
-- Assumes nothing.
use mathlib.Core.Path.{◌≡◌, refl, sym, ap, ◌∙◌}
use mathlib.Core.Bool.{true, ◌&&◌}
use mathlib.Core.List.{List, [], ◌∷◌, ◌++◌, append_assoc}
use Prim.Native.Nat.{ℕ, ◌+◌, ◌/◌, ◌%◌, ◌≤◌, ◌<◌}
use native.Mathlib.Omega.{arith}
use borrow.Author.Tests.{le-leb, eq-eqb}
use lib.Dec.{eqb}
use lib.ListN.{length, get_or, take, drop}
use lib.Seq.{take_at, drop_at, drop-drop}
use Rattle.sample_numbers.specs.Number.{number, bytes_of, whole, whole_bytes}
use Rattle.sample_files.specs.declared.SamplePoint.{SamplePoint}
use Rattle.text_words.specs.Words.{same}
use Rattle.sample_files.specs.File.{field, point_field, point_fields, file_of, point_size, most_points, message_of, rest_of, point_of, points_in, points_of, shape}
use Rattle.sample_files.specs.Private.{message_first, point_head, point_heads, only_points, tested}
use Rattle.sample_files.specs.Held.{Held, AllHeld, more}
use Rattle.sample_numbers.proofs.Number.{length-bytes_of, length_whole, number-bytes_of, whole_back}
use Rattle.sample_files.proofs.Bytes.{length-contents, length-point, length-points, length-file}

pub same_refl : (a : List ℕ) → same a a ≡ true
unfolding same
same_refl [] = refl
same_refl (x ∷ a) = rw (eq-eqb x x refl) (same_refl a)

-- ---- a point

module _ (p : SamplePoint) (t : List ℕ) where
  -- the bytes from the north-south position on
  abbrev places : List ℕ
  places = whole_bytes p.north ++ (whole_bytes p.east ++ (whole_bytes p.claim ++ t))

  point-begins : point_field p ++ t ≡ 2 ∷ 0 ∷ 25 ∷ p.component ∷ places
  unfolding point_field field bytes_of
  point-begins =
      rw (length-contents p)
      (ap (λ (l : List ℕ). 2 ∷ 0 ∷ 25 ∷ p.component ∷ l)
      (append_assoc (whole_bytes p.north) (whole_bytes p.east ++ whole_bytes p.claim) t
      ∙ ap (λ (l : List ℕ). whole_bytes p.north ++ l) (append_assoc (whole_bytes p.east) (whole_bytes p.claim) t)))

  pub head-back : point_head (point_field p ++ t) ≡ true
  unfolding point_head number
  head-back = rw point-begins

  behind-north : drop 8 places ≡ whole_bytes p.east ++ (whole_bytes p.claim ++ t)
  behind-north = drop_at (whole_bytes p.north) _ 8 (length_whole p.north)

  behind-east : drop 16 places ≡ whole_bytes p.claim ++ t
  behind-east = sym (drop-drop 8 8 places) ∙ ap (drop 8) behind-north ∙ drop_at (whole_bytes p.east) _ 8 (length_whole p.east)

  pub point-back : Held p → point_of (point_field p ++ t) ≡ p
  unfolding point_of
  point-back h =
      ap point_of point-begins
      ∙ λ i. record {
        component = p.component;
        north = whole_back p.north (whole_bytes p.east ++ (whole_bytes p.claim ++ t)) h.north i;
        east = (ap whole behind-north ∙ whole_back p.east (whole_bytes p.claim ++ t) h.east) i;
        claim = (ap whole behind-east ∙ whole_back p.claim t h.claim) i;
      }

  pub next-back : drop point_size (point_field p ++ t) ≡ t
  next-back = drop_at (point_field p) t point_size (length-point p)

pub heads-back : (ps : List SamplePoint) → point_heads (length ps) (point_fields ps) ≡ true
unfolding point_heads point_fields
heads-back [] = refl
heads-back (p ∷ ps) = rw (head-back p (point_fields ps), next-back p (point_fields ps)) (heads-back ps)

pub points-back : (ps : List SamplePoint) → AllHeld ps → points_in (length ps) (point_fields ps) ≡ ps
unfolding points_in point_fields
points-back [] h = refl
points-back (p ∷ ps) (more h hs) =
    λ i. point-back p (point_fields ps) h i ∷ (ap (points_in (length ps)) (next-back p (point_fields ps)) ∙ points-back ps hs) i

-- ---- a file

module _ (m : List ℕ) (ps : List SamplePoint) (h : length m < 65536) where
  abbrev f : List ℕ
  f = file_of m ps

  begins : f ≡ 1 ∷ (bytes_of 2 (length m) ++ (m ++ point_fields ps))
  unfolding file_of field
  begins = ap (λ (l : List ℕ). 1 ∷ l) (append_assoc (bytes_of 2 (length m)) m (point_fields ps))

  size_back : number 2 (drop 1 f) ≡ length m
  size_back = ap (λ (l : List ℕ). number 2 (drop 1 l)) begins ∙ number-bytes_of 2 (length m) (m ++ point_fields ps) h

  behind-head : drop 3 f ≡ m ++ point_fields ps
  behind-head = ap (drop 3) begins ∙ drop_at (bytes_of 2 (length m)) (m ++ point_fields ps) 2 (length-bytes_of 2 (length m))

  pub message-back : message_of f ≡ m
  unfolding message_of
  message-back = (λ i. take (size_back i) (behind-head i)) ∙ take_at m (point_fields ps) (length m) refl

  pub rest_back : rest_of f ≡ point_fields ps
  unfolding rest_of
  rest_back =
      ap (λ (n : ℕ). drop (3 + n) f) size_back
      ∙ sym (drop-drop (length m) 3 f)
      ∙ ap (drop (length m)) behind-head
      ∙ drop_at m (point_fields ps) (length m) refl

  first_back : message_first f ≡ true
  unfolding message_first
  first_back =
      let n = length-file m ps in
      rw (size_back, le-leb 3 (length f) (omega arith), le-leb (3 + length m) (length f) (omega arith))
      (ap (λ (l : List ℕ). eqb (get_or l 0 0) 1 && true) begins)

  count-back : length (rest_of f) / point_size ≡ length ps
  count-back = ap (λ (l : List ℕ). length l / point_size) rest_back ∙ omega (arith, length-points ps)

  only-back : length ps ≤ most_points → only_points (rest_of f) ≡ true
  unfolding only_points
  only-back l =
      let e : length (point_fields ps) % point_size ≡ 0 = omega (arith, length-points ps) in
      let c : length (point_fields ps) / point_size ≡ length ps = omega (arith, length-points ps) in
      rw (rest_back, e, c, le-leb (length ps) most_points l) (heads-back ps)

  -- law: the bytes of a message and points pass the tests
  pub tests-back : length ps ≤ most_points → tested f ≡ true
  unfolding tested
  tests-back l = rw (first_back, only-back l)

  -- law: the points are read back
  pub points-of-back : AllHeld ps → points_of f ≡ ps
  unfolding points_of
  points-of-back hs = (λ i. points_in (count-back i) (rest_back i)) ∙ points-back ps hs

  -- law: the shape is right
  pub shape-back : length ps ≤ most_points → AllHeld ps → shape f ≡ true
  unfolding shape
  shape-back l hs = rw (message-back, points-of-back hs, same_refl f, le-leb (length ps) most_points l)
