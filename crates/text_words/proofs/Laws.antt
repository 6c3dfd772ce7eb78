-- What `find` and `same` are in std's words, the place behind a word, and the words of a line.
-- Assumes nothing.
use Prim.Native.Nat.{ℕ, suc, ◌+◌, ◌-◌, ◌≤◌, ◌<◌}
use native.Mathlib.Omega.{arith}
use mathlib.Core.Path.{◌≡◌, refl, sym, ap, ◌∙◌}
use mathlib.Core.Bool.{Bool, true, false, cond}
use mathlib.Core.List.{List, [], ◌∷◌, ◌++◌}
use lib.Dec.{eqb, ltb}
use lib.Pointwise.{pointwise}
use Rattle.std.specs.Prelude.{Some, None}
use Rattle.std.proofs.Math.Nat.{le_antisymm}
use Rattle.std.proofs.lemmas.Bool.{ltb-false}
use Rattle.std.proofs.lemmas.List.Sums.{prefix_len-le-length}
use lib.ListN.{length, get_or, take, drop, length-drop, drop_of_length-le}
use lib.Seq.{drop-cons, drop-length, drop-drop}
use borrow.Author.Tests.{le-leb, lt-leb}
use Rattle.std.specs.List.{position, position_or_len}
use Rattle.std.specs.Option.{unwrap_or}
use Rattle.std.proofs.lemmas.List.Recursion.{is_position_or_len}
use Rattle.text_words.specs.Inner.{find, word, rest, Next, longer, words, place_in, has_room, put, place_behind}
use Rattle.text_words.specs.Words.{same}

-- the place of the first byte b is std's first place that passes
or_length : (p n : ℕ) → p ≤ n → (t : Bool) → ltb p n ≡ t → unwrap_or (cond (ltb p n) (Some p) None) n ≡ p
or_length p n h true e = rw e refl
or_length p n h false e = rw e (le_antisymm (ltb-false p n e) h)

one_on : (b x : ℕ) (s : List ℕ) → find b (x ∷ s) ≡ cond (eqb x b) 0 (1 + find b s)
unfolding find
one_on b x s = let e : suc (find b s) ≡ 1 + find b s = omega arith in ap (cond (eqb x b) 0) e

pub found : (b : ℕ) (s : List ℕ) → unwrap_or (position (λ x. eqb x b) s) (length s) ≡ find b s
unfolding find
found b s =
    let first = position_or_len (λ x. eqb x b) s in
    or_length first (length s) (prefix_len-le-length _ s) (ltb first (length s)) refl ∙ sym (is_position_or_len (find b) (λ x. eqb x b) refl (one_on b) s)

pub same_is : (a b : List ℕ) → pointwise eqb a b ≡ same a b
unfolding same
same_is [] [] = refl
same_is [] (y ∷ b) = refl
same_is (x ∷ a) [] = refl
same_is (x ∷ a) (y ∷ b) = rw (same_is a b) refl

-- the place behind the word at k, by where that word ends
module _ (s : List ℕ) (k : ℕ) where
  pub next-end : length s ≤ k + find 32 (drop k s) → Next s k (length s)
  unfolding rest
  next-end h =
      record {
        inside = omega arith;
        behind = drop-length s ∙ sym (drop-drop (suc (find 32 (drop k s))) k s ∙ drop_of_length-le s {i = k + suc (find 32 (drop k s))} (omega arith));
      }

  pub next-on : k + find 32 (drop k s) < length s → Next s k (k + find 32 (drop k s) + 1)
  unfolding rest
  next-on h =
      let e : k + suc (find 32 (drop k s)) ≡ k + find 32 (drop k s) + 1 = omega arith in
      record {
        inside = omega arith;
        behind = sym (drop-drop (suc (find 32 (drop k s))) k s ∙ ap (λ n. drop n s) e);
      }

-- the words of a line are its first one and those of the rest
words-by : (x : ℕ) (s : List ℕ) → longer x (words s) ≡ (x ∷ word s) ∷ words (rest s) → (e : Bool) → eqb x 32 ≡ e
    → words (x ∷ s) ≡ word (x ∷ s) ∷ words (rest (x ∷ s))
unfolding words word rest find
words-by x s on true q = rw q
words-by x s on false q = rw q on

words-longer : (x y : ℕ) (t : List ℕ) → words (y ∷ t) ≡ word (y ∷ t) ∷ words (rest (y ∷ t)) → longer x (words (y ∷ t)) ≡ (x ∷ word (y ∷ t)) ∷ words (rest (y ∷ t))
unfolding longer
words-longer x y t e = rw e

longer-none : (x : ℕ) → longer x (words []) ≡ (x ∷ word []) ∷ words (rest [])
unfolding longer words word rest find
longer-none x = refl

pub words_step : (x : ℕ) (t : List ℕ) → words (x ∷ t) ≡ word (x ∷ t) ∷ words (rest (x ∷ t))
words_step x [] = words-by x [] (longer-none x) (eqb x 32) refl
words_step x (y ∷ t) = words-by x (y ∷ t) (words-longer x y t (words_step y t)) (eqb x 32) refl

module _ (a s : List ℕ) (k : ℕ) where
  pub place_end : length s ≤ k → place_in a (words (drop k s)) ≡ 0
  unfolding place_in words
  place_end h = rw (drop_of_length-le s {i = k} h)

  module _ (h : k < length s) where
    words-drop : words (drop k s) ≡ word (drop k s) ∷ words (rest (drop k s))
    words-drop = rw (drop-cons s k 0 h) (words_step (get_or s k 0) (drop (suc k) s))

    pub place_here : same (word (drop k s)) a ≡ true → place_in a (words (drop k s)) ≡ 0
    unfolding place_in
    place_here e = rw (words-drop, e)

    pub place-on : same (word (drop k s)) a ≡ false → place_in a (words (drop k s)) ≡ suc (place_in a (words (rest (drop k s))))
    unfolding place_in
    place-on e = rw (words-drop, e)

-- the place behind the word at k is past k
pub next_past : (s : List ℕ) (k r : ℕ) → k < length s → Next s k r → k < r
unfolding rest
next_past s k r h n =
    let e : length s - r ≡ length s - k - suc (find 32 (drop k s)) =
    sym (length-drop r s) ∙ ap length n.behind ∙ length-drop (suc (find 32 (drop k s))) (drop k s) ∙ ap (λ m. m - suc (find 32 (drop k s))) (length-drop k s) in
    let i : r ≤ length s = n.inside in
    omega arith

-- bytes put at a place, by whether there is room
module _ (out : List ℕ) (at : ℕ) (s : List ℕ) where
  pub put-in : at + length s ≤ length out → put out at s ≡ take at out ++ s ++ drop (at + length s) out
  unfolding put has_room
  put-in h = rw (le-leb (at + length s) (length out) h)

  pub put-not : length out < at + length s → put out at s ≡ out
  unfolding put has_room
  put-not h = rw (lt-leb (at + length s) (length out) h)

  pub behind-in : at + length s ≤ length out → place_behind out at s ≡ at + length s
  unfolding place_behind has_room
  behind-in h = rw (le-leb (at + length s) (length out) h)

  pub behind-not : length out < at + length s → place_behind out at s ≡ at
  unfolding place_behind has_room
  behind-not h = rw (lt-leb (at + length s) (length out) h)
