-- What only promises between crates name.
-- Assumes nothing.
use Rattle.std.specs.Prelude.{ℕ, suc, ◌+◌, ◌≤◌, ◌≡◌, Bool, cond, List, [], ◌∷◌, ◌++◌, eqb, leb, length, take, drop}
use Rattle.text_words.specs.Words.{same}

-- the place of the first byte b, the length where there is none
unfoldable pub find : ℕ → List ℕ → ℕ
find b [] = 0
find b (x ∷ s) = cond (eqb x b) 0 (suc (find b s))

-- the first word: up to the first space, 32
unfoldable pub word : List ℕ → List ℕ
word s = take (find 32 s) s

-- what stands behind the first word and its space
unfoldable pub rest : List ℕ → List ℕ
rest s = drop (suc (find 32 s)) s

-- r is the place behind the word that begins at k and its space, the length where there is no more
pub record Next (s : List ℕ) (k r : ℕ) : Type 0 where
  pub inside : r ≤ length s
  pub behind : drop r s ≡ rest (drop k s)

-- a byte more at the front of the first of some words
unfoldable pub longer : ℕ → List (List ℕ) → List (List ℕ)
longer b [] = (b ∷ []) ∷ []
longer b (w ∷ ws) = (b ∷ w) ∷ ws

-- all words of a line; a space at its end has no word behind it
unfoldable pub words : List ℕ → List (List ℕ)
words [] = []
words (b ∷ s) = cond (eqb b 32) ([] ∷ words s) (longer b (words s))

-- the place of a word in a list of words, their number where it is none of them
unfoldable pub place_in : List ℕ → List (List ℕ) → ℕ
place_in s [] = 0
place_in s (w ∷ ws) = cond (same w s) 0 (suc (place_in s ws))

-- whether a buffer has room for s at a place
unfoldable pub has_room : List ℕ → ℕ → List ℕ → Bool
has_room out at s = leb (at + length s) (length out)

-- the buffer with s at a place; as it was where there is no room for all of s
unfoldable pub put : List ℕ → ℕ → List ℕ → List ℕ
put out at s = cond (has_room out at s) (take at out ++ s ++ drop (at + length s) out) out

-- the place behind s; the place itself where there is no room
unfoldable pub place_behind : List ℕ → ℕ → List ℕ → ℕ
place_behind out at s = cond (has_room out at s) (at + length s) at
