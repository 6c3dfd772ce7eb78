-- What only promises between crates name.
-- Assumes nothing.
use Rattle.std.specs.Prelude.{ℕ, ◌+◌, ◌-◌, cond, List, ◌++◌, length, take, drop, ltb, Some, None}
use Rattle.text_words.specs.Inner.{find}
use Rattle.text_lines.specs.declared.Line.{Line}

-- the line of n bytes at a place, and the place behind its newline, where a byte stands behind it
unfoldable pub line_of : List ℕ → ℕ → ℕ → Line
line_of s from n = record { from = from; length = n; next = cond (ltb (from + n) (length s)) (Some (from + n + 1)) None }

-- the line that begins at a place: up to the first newline, 10, or to the end
unfoldable pub line_at : List ℕ → ℕ → Line
line_at s from = line_of s from (find 10 (drop from s))

-- the bytes of a window of n from a place up to an end, where the window reaches that far
unfoldable pub kept : ℕ → ℕ → ℕ → ℕ
kept n from end = cond (ltb n end) 0 (end - from)

-- the window with these bytes at its front
unfoldable pub slid : List ℕ → ℕ → ℕ → List ℕ
slid w from end = take (kept (length w) from end) (drop from w) ++ drop (kept (length w) from end) w
