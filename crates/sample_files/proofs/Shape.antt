-- The tests of the code are the shape: a file of bytes that passes them is the bytes of its message and its points, and the other way round.
-- Assumes nothing.
use mathlib.Core.Path.{◌≡◌, refl, sym, ap, ap₂, ◌∙◌}
use mathlib.Core.Bool.{Bool, true, false, ◌&&◌}
use mathlib.Core.List.{List, [], ◌∷◌, ◌++◌}
use Prim.Native.Nat.{ℕ, zero, suc, ◌+◌, ◌*◌, ◌/◌, ◌%◌, ◌^◌, ◌≤◌, ◌<◌}
use native.Mathlib.Nat.{min-le_left}
use native.Mathlib.Omega.{arith}
use borrow.Author.Tests.{leb-true, eqb-true}
use lib.Dec.{eqb, leb}
use lib.ListN.{length, get_or, take, drop, length-drop, length-take, take-append-drop}
use lib.Signed.{mag}
use lib.Seq.{length-take-le, take-add, take-suc, drop-drop, get_or-drop}
use Rattle.arith.proofs.Tests.{false-ne-true, both_first, both-second}
use Rattle.field.proofs.Bit.{Bytes}
use Rattle.text_words.specs.Words.{same}
use Rattle.sample_numbers.specs.Number.{number, bytes_of, whole, whole_bytes}
use Rattle.sample_numbers.proofs.Number.{number_lt, bytes_of-number, bytes_back, whole-held}
use Rattle.sample_files.specs.declared.SamplePoint.{SamplePoint}
use Rattle.sample_files.specs.File.{field, point_field, point_fields, file_of, point_size, most_points, message_end, message_of, rest_of, point_of, points_in, points_of, shape}
use Rattle.sample_files.specs.Private.{message_first, point_head, point_heads, only_points, tested}
use Rattle.sample_files.specs.Held.{Held, AllHeld, none, more}
use Rattle.sample_files.proofs.Bytes.{length-contents}
use Rattle.sample_files.proofs.Fields.{length-points-in}
use Rattle.sample_files.proofs.Back.{same_refl, tests-back}

pub same_true : (a b : List ℕ) → same a b ≡ true → a ≡ b
unfolding same
same_true [] [] e = refl
same_true [] (y ∷ b) e = absurd (false-ne-true e)
same_true (x ∷ a) [] e = absurd (false-ne-true e)
same_true (x ∷ a) (y ∷ b) e =
    ap₂ (λ (n : ℕ) (l : List ℕ). n ∷ l) (eqb-true x y (both_first (eqb x y) (same a b) e)) (same_true a b (both-second (eqb x y) (same a b) e))

bytes_drop : (s : List ℕ) (k : ℕ) → Bytes s → Bytes (drop k s)
bytes_drop s k b i = rw (get_or-drop k s i 0) (b (k + i))

-- bytes from a on, cut in two
cut : (s : List ℕ) (a k m : ℕ) → take (k + m) (drop a s) ≡ take k (drop a s) ++ take m (drop (a + k) s)
cut s a k m = take-add k m (drop a s) ∙ ap (λ (l : List ℕ). take k (drop a s) ++ take m l) (drop-drop k a s)

one : (s : List ℕ) (a : ℕ) → a < length s → take 1 (drop a s) ≡ get_or s a 0 ∷ []
one s a h =
    let e : a + 0 ≡ a = omega arith in
    take-suc (drop a s) 0 0 (omega (arith, length-drop a s)) ∙ ap (λ (n : ℕ). n ∷ []) (get_or-drop a s 0 0 ∙ ap (λ (k : ℕ). get_or s k 0) e)

module _ (s : List ℕ) (b : Bytes s) where
  two_bytes : (n : ℕ) → number 2 (drop 1 s) ≡ n → 3 ≤ length s → bytes_of 2 n ≡ take 2 (drop 1 s)
  two_bytes n e h = ap (bytes_of 2) (sym e) ∙ bytes_of-number (drop 1 s) (bytes_drop s 1 b) 2 (omega (arith, length-drop 1 s))

  eight-bytes : (a : ℕ) → a + 8 ≤ length s → whole_bytes (whole (drop a s)) ≡ take 8 (drop a s)
  eight-bytes a h = bytes_back (drop a s) (bytes_drop s a b) (omega (arith, length-drop a s))

  -- the field of the point that s begins with
  field_of : point_size ≤ length s → point_head s ≡ true → point_field (point_of s) ≡ take point_size s
  unfolding point_field field point_of point_head
  field_of h t =
      let p : SamplePoint = point_of s in
      let u : get_or s 0 0 ≡ 2 = eqb-true (get_or s 0 0) 2 (both_first (eqb (get_or s 0 0) 2) (eqb (number 2 (drop 1 s)) 25) t) in
      let v : number 2 (drop 1 s) ≡ 25 = eqb-true (number 2 (drop 1 s)) 25 (both-second (eqb (get_or s 0 0) 2) (eqb (number 2 (drop 1 s)) 25) t) in
      (λ i. sym u i ∷ ((ap (bytes_of 2) (length-contents p) ∙ two_bytes 25 v (omega arith)) i
      ++ (get_or s 3 0 ∷ (eight-bytes 4 (omega arith) i ++ (eight-bytes 12 (omega arith) i ++ eight-bytes 20 (omega arith) i)))))
      ∙ sym
      (cut s 0 1 27
      ∙ ap₂ (λ (x y : List ℕ). x ++ y) (one s 0 (omega arith))
      (cut s 1 2 25
      ∙ ap (λ (y : List ℕ). take 2 (drop 1 s) ++ y)
      (cut s 3 1 24
      ∙ ap₂ (λ (x y : List ℕ). x ++ y) (one s 3 (omega arith))
      (cut s 4 8 16 ∙ ap (λ (y : List ℕ). take 8 (drop 4 s) ++ y) (cut s 12 8 8)))))

  point-held : Held (point_of s)
  unfolding point_of
  point-held = record { component = b 3; north = held 4; east = held 12; claim = held 20 }
    where
      held : (a : ℕ) → mag (whole (drop a s)) < 2 ^ 63
      held a = whole-held (drop a s) (bytes_drop s a b)

pub points-held : (n : ℕ) (s : List ℕ) → Bytes s → AllHeld (points_in n s)
unfolding points_in
points-held zero s b = none
points-held (suc n) s b = more (point-held s b) (points-held n (drop point_size s) (bytes_drop s point_size b))

empty : (s : List ℕ) → length s ≡ 0 → [] ≡ s
empty [] h = refl
empty (x ∷ s) h = absurd (omega arith)

fields-of : (n : ℕ) (s : List ℕ) → Bytes s → length s ≡ point_size * n → point_heads n s ≡ true → point_fields (points_in n s) ≡ s
unfolding point_fields points_in point_heads
fields-of zero s b l t = empty s (omega arith)
fields-of (suc n) s b l t =
    let r : List ℕ = drop point_size s in
    ap₂ (λ (x y : List ℕ). x ++ y)
    (field_of s b (omega arith) (both_first (point_head s) (point_heads n r) t))
    (fields-of n r (bytes_drop s point_size b) (omega (arith, length-drop point_size s)) (both-second (point_head s) (point_heads n r) t))
    ∙ take-append-drop point_size s

module _ (f : List ℕ) (b : Bytes f) where
  size_low : number 2 (drop 1 f) < 65536
  size_low = number_lt (drop 1 f) (bytes_drop f 1 b) 2

  message-field : message_first f ≡ true → field 1 (message_of f) ≡ take (message_end f) f
  unfolding message_first field message_of
  message-field t =
      let n : ℕ = number 2 (drop 1 f) in
      let r : Bool = eqb (get_or f 0 0) 1 && leb (message_end f) (length f) in
      let h : 3 ≤ length f = leb-true 3 (length f) (both_first (leb 3 (length f)) r t) in
      let q : r ≡ true = both-second (leb 3 (length f)) r t in
      let u : get_or f 0 0 ≡ 1 = eqb-true (get_or f 0 0) 1 (both_first (eqb (get_or f 0 0) 1) (leb (message_end f) (length f)) q) in
      let e : message_end f ≤ length f = leb-true (message_end f) (length f) (both-second (eqb (get_or f 0 0) 1) (leb (message_end f) (length f)) q) in
      let l : length (take n (drop 3 f)) ≡ n = length-take-le n (drop 3 f) (omega (arith, e, length-drop 3 f)) in
      let g : 3 + n ≡ 1 + (2 + n) = omega arith in
      (λ i. sym u i ∷ ((ap (bytes_of 2) l ∙ two_bytes f b n refl h) i ++ take n (drop 3 f)))
      ∙ sym (ap (λ (k : ℕ). take k f) g ∙ cut f 0 1 (2 + n) ∙ ap₂ (λ (x y : List ℕ). x ++ y) (one f 0 (omega arith)) (cut f 1 2 n))

  rest-fields : only_points (rest_of f) ≡ true → point_fields (points_of f) ≡ rest_of f
  unfolding only_points points_of rest_of
  rest-fields t =
      let s : List ℕ = drop (message_end f) f in
      let k : Bool = leb (length s / point_size) most_points && point_heads (length s / point_size) s in
      let z : length s % point_size ≡ 0 = eqb-true (length s % point_size) 0 (both_first (eqb (length s % point_size) 0) k t) in
      fields-of (length s / point_size) s (bytes_drop f (message_end f) b) (omega arith)
      (both-second (leb (length s / point_size) most_points) (point_heads (length s / point_size) s) (both-second (eqb (length s % point_size) 0) k t))

  few-points : only_points (rest_of f) ≡ true → leb (length (points_of f)) most_points ≡ true
  unfolding only_points points_of
  few-points t =
      let s : List ℕ = rest_of f in
      let k : Bool = leb (length s / point_size) most_points && point_heads (length s / point_size) s in
      ap (λ (n : ℕ). leb n most_points) (length-points-in (length s / point_size) s)
      ∙ both_first (leb (length s / point_size) most_points) (point_heads (length s / point_size) s) (both-second (eqb (length s % point_size) 0) k t)

  -- law: a file that passes the tests is the bytes of its message and its points
  tests-file : tested f ≡ true → f ≡ file_of (message_of f) (points_of f)
  unfolding tested file_of
  tests-file t =
      sym
      (ap₂ (λ (x y : List ℕ). x ++ y)
      (message-field (both_first (message_first f) (only_points (rest_of f)) t))
      (rest-fields (both-second (message_first f) (only_points (rest_of f)) t))
      ∙ joined)
    where
      joined : take (message_end f) f ++ rest_of f ≡ f
      joined = unfold rest_of in take-append-drop (message_end f) f

  tests-shape : tested f ≡ true → shape f ≡ true
  unfolding shape
  tests-shape t =
      rw (ap (same f) (sym (tests-file t)) ∙ same_refl f, few t)
    where
      few : tested f ≡ true → leb (length (points_of f)) most_points ≡ true
      few t = few-points (both-second (message_first f) (only_points (rest_of f)) (unfold tested in t))

  -- law: a file of the right shape is the bytes of its message and its points
  pub shape-file : shape f ≡ true → f ≡ file_of (message_of f) (points_of f)
  unfolding shape
  shape-file t = same_true f _ (both_first (same f (file_of (message_of f) (points_of f))) (leb (length (points_of f)) most_points) t)

  pub shape-few : shape f ≡ true → length (points_of f) ≤ most_points
  unfolding shape
  shape-few t = leb-true (length (points_of f)) most_points (both-second (same f (file_of (message_of f) (points_of f))) (leb (length (points_of f)) most_points) t)

  pub message-low : length (message_of f) < 65536
  unfolding message_of
  message-low =
      let n : ℕ = number 2 (drop 1 f) in
      omega (arith, size_low, length-take n (drop 3 f), min-le_left n (length (drop 3 f)))

  pub held-points : AllHeld (points_of f)
  unfolding points_of rest_of
  held-points = points-held (length (drop (message_end f) f) / point_size) (drop (message_end f) f) (bytes_drop f (message_end f) b)

  shape-tests : shape f ≡ true → tested f ≡ true
  shape-tests t = ap tested (shape-file t) ∙ tests-back (message_of f) (points_of f) message-low (shape-few t)

  -- law: the message of a file of the right shape ends within it
  pub message-whole : shape f ≡ true → message_end f ≤ length f
  message-whole t = first-whole (both_first (message_first f) (only_points (rest_of f)) (unfold tested in shape-tests t))
    where
      first-whole : message_first f ≡ true → message_end f ≤ length f
      first-whole e = unfold message_first in leb-true (message_end f) (length f) (both-second (eqb (get_or f 0 0) 1) (leb (message_end f) (length f)) (both-second (leb 3 (length f)) _ e))

  -- THE SHAPE is what the code tests
  pub shape_is : tested f ≡ shape f
  shape_is = by (tested f) (shape f) tests-shape shape-tests
    where
      by : (x y : Bool) → (x ≡ true → y ≡ true) → (y ≡ true → x ≡ true) → x ≡ y
      by true y u v = sym (u refl)
      by false true u v = v refl
      by false false u v = refl
