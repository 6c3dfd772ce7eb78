-- A row read part by part.
-- Assumes nothing.
use Rattle.std.proofs.Common.{Option}
use mathlib.Core.Path.{◌≡◌, refl, sym, ap, ◌∙◌}
use mathlib.Core.List.{List, ◌++◌, map, append-nil, append_assoc, map-append}
use Prim.Native.Nat.{ℕ, ◌+◌, ◌*◌, ◌≤◌}
use native.Mathlib.Omega.{arith}
use lib.IntN.{ℤ}
use lib.ListN.{length, take, drop, length-map, length-append, length-drop, drop_of_length-le}
use lib.Seq.{take_at, drop_at, drop-drop, length-take-le}
use borrow.Rule.Slice.PartMut.{mid_of, put_mid}
use Rattle.layout.specs.Layout.{total, decode_all, value_in, present_in}
use Rattle.layout.proofs.Round.{length-decode_all, total-append, decode-append}
use Rattle.layout_reader.specs.Inner.{values_loaded, present_loaded}
use Rattle.layout.proofs.Loop.{total-most}
use Rattle.layout_reader.proofs.Answer.{loads}
use Rattle.layout_tables.specs.Layouts.{points}
use Rattle.layout_tables.specs.Private.{nodes, behind}

-- ---- one part of both buffers, lent to a reader

pub mid-length : {A : Type 0} (a k : ℕ) (v : List A) → a + k ≤ length v → length (mid_of a k v) ≡ k
mid-length a k v h = length-take-le k (drop a v) (omega (arith, length-drop a v))

-- k places from a on with x in them, of which nothing is left
put_all : {A : Type 0} (a k : ℕ) (v x : List A) → a + k ≤ length v → put_mid a k v (x ++ drop k (mid_of a k v)) ≡ take a v ++ (x ++ drop (a + k) v)
put_all {A} a k v x h =
    ap (λ (y : List A). take a v ++ (x ++ y ++ drop k (drop a v))) (drop_of_length-le (mid_of a k v) {i = k} (omega (arith, mid-length a k v h)))
    ∙ ap (λ (y : List A). take a v ++ (y ++ drop k (drop a v))) (append-nil x)
    ∙ ap (λ (y : List A). take a v ++ (x ++ y)) (drop-drop k a v)

module _ (es : List ℕ) (a k p : ℕ) (s : List ℕ) (v : List ℤ) (b : List ℕ) (n : length es ≡ k) (few : k ≤ 96) (near : p ≤ 9999) (within : p + total es ≤ 8 * length s)
    (l : a + k ≤ length v) (m : a + k ≤ length b) where
  pub part-loaded : (put_mid a k v (values_loaded es p s (mid_of a k v) (mid_of a k b)) ≡ take a v ++ (map value_in (decode_all es p s) ++ drop (a + k) v))
      × (put_mid a k b (present_loaded es p s (mid_of a k v) (mid_of a k b)) ≡ take a b ++ (map present_in (decode_all es p s) ++ drop (a + k) b))
  part-loaded =
      let t = loads es p s (mid_of a k v) (mid_of a k b) (omega arith) (omega (arith, total-most es)) within (omega (arith, mid-length a k v l)) (omega (arith, mid-length a k b m)) in
      let u = rw n at t in (
        ap (put_mid a k v) (sym u.0) ∙ put_all a k v (map value_in (decode_all es p s)) l,
        ap (put_mid a k b) (sym u.1) ∙ put_all a k b (map present_in (decode_all es p s)) m,
      )

-- ---- parts one after the other

pub length-nodes : length nodes ≡ 48
unfolding nodes
length-nodes = refl

pub total-nodes : total nodes ≡ 432
unfolding nodes total
total-nodes = refl

pub length-points : length points ≡ 53
length-points = refl

pub total-points : total points ≡ 458
unfolding total
total-points = refl

points-parts : points ≡ nodes ++ behind
unfolding nodes behind
points-parts = refl

module _ {A : Type 0} (f : Option ℤ → A) (s : List ℕ) (v : List A) where
  joined : (a b : List ℕ) (p q k m : ℕ) (x : List A) → length a ≡ k → q ≡ p + total a → x ≡ map f (decode_all a p s) ++ drop k v
      → take k x ++ (map f (decode_all b q s) ++ drop (k + m) x) ≡ map f (decode_all (a ++ b) p s) ++ drop (k + m) v
  joined a b p q k m x n e g =
      let F : List A = map f (decode_all a p s) in
      let G : List A = map f (decode_all b q s) in
      let c : length F ≡ k = length-map (decode_all a p s) f ∙ length-decode_all a p s ∙ n in
      let t : take k x ≡ F = ap (take k) g ∙ take_at F (drop k v) k c in
      let d : drop (k + m) x ≡ drop (k + m) v = sym (drop-drop m k x) ∙ ap (drop m) (ap (drop k) g ∙ drop_at F (drop k v) k c) ∙ drop-drop m k v in
      let all : map f (decode_all (a ++ b) p s) ≡ F ++ G = ap (map f) (decode-append a b p s) ∙ map-append f (decode_all a p s) (decode_all b (p + total a) s) ∙ ap (λ (y : ℕ). F ++ map f (decode_all b y s)) (sym e) in
      rw (t, d, all) (sym (append_assoc F G (drop (k + m) v)))

  -- a grid message: the head, the grid points and what follows them
  pub grid-read : (head : List ℕ) (p : ℕ) (x y z : List A) → length head ≡ 11 → total head ≡ p
      → x ≡ map f (decode_all head 0 s) ++ drop 11 v
      → y ≡ take 11 x ++ (map f (decode_all nodes p s) ++ drop 59 x)
      → z ≡ take 59 y ++ (map f (decode_all behind (p + 432) s) ++ drop 64 y)
      → z ≡ map f (decode_all (head ++ points) 0 s) ++ drop 64 v
  grid-read head p x y z n e g h i =
      let a : y ≡ map f (decode_all (head ++ nodes) 0 s) ++ drop 59 v = h ∙ joined head nodes 0 p 11 48 x n (omega arith) g in
      let c : length (head ++ nodes) ≡ 59 = length-append head nodes ∙ omega (arith, length-nodes) in
      let t : p + 432 ≡ 0 + total (head ++ nodes) = omega (arith, total-append head nodes, total-nodes) in
      i ∙ joined (head ++ nodes) behind 0 (p + 432) 59 5 y c t a
      ∙ ap (λ (es : List ℕ). map f (decode_all es 0 s) ++ drop 64 v) (append_assoc head nodes behind ∙ ap (λ (es : List ℕ). head ++ es) (sym points-parts))
