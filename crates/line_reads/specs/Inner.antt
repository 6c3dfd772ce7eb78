-- What a window holds of a text, and what is left of the text.
-- Assumes nothing.
use Rattle.std.specs.Prelude.{ℕ, ◌≡◌, ◌≤◌, ◌⊎◌, List, [], ◌∷◌, ◌++◌, length, take, drop, Option, Some, None}
use Rattle.std.specs.Io.KnownBytes.{IsAtEnd, Consumes, prepend_known}
use Rattle.text_words.specs.Inner.{find}
use Rattle.text_lines.specs.declared.Line.{Line}
use Rattle.line_reads.specs.declared.window.Lines.{Lines}

-- the bytes that were read and not yet given
abbrev pub held : Lines → List ℕ
held l = drop l.from (take l.held l.window)

-- what is left of the text, where the reader's bytes are known
abbrev pub left : Lines → Option (List ℕ) → Option (List ℕ)
left l known = prepend_known (held l) known

-- the bytes of a line that was read
abbrev pub text_of : Lines → Line → List ℕ
text_of l line = take line.length (drop line.from (take l.held l.window))

-- a text with the newline, 10, that ends it
abbrev pub ended_by : List ℕ → Option ℕ → List ℕ
ended_by text None = text
ended_by text (Some n) = text ++ (10 ∷ [])

-- a text loses a line; where no newline ends the line, the text ends with it or the window is full
pub record Takes (old new : Option (List ℕ)) (text : List ℕ) (next : Option ℕ) : Type 0 where
  pub taken : Consumes old new (ended_by text next)
  pub one : find 10 text ≡ length text
  pub last : next ≡ None → (4096 ≤ length text) ⊎ IsAtEnd new
