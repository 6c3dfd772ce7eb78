-- What private functions ask, and what they read.
-- Assumes nothing.
use Rattle.std.specs.Prelude.{ℕ, ◌+◌, ◌*◌, ◌<◌, ◌≡◌, cond, List}
use Rattle.field.specs.Inner.{field_at}
use Rattle.layout_tables.specs.Layouts.{named}
use Rattle.message_rows.specs.Message.{refusal, number_of, sin_of}

-- the counters of a message of number k, as they are read before the message is known to be one: 0 where it carries no names
abbrev pub source_read : List ℕ → ℕ → ℕ
source_read s k = cond (named k) (field_at s 12 5) 0

abbrev pub target_read : List ℕ → ℕ → ℕ → ℕ
target_read s k n = cond (named k) (field_at s (17 + 8 * n) 5) 0

-- the number and both counters of a message were read
pub record Counted (s : List ℕ) (k n m : ℕ) : Type 0 where
  pub number : k ≡ field_at s 0 12
  pub source : n ≡ source_read s k
  pub target : m ≡ target_read s k n

-- where DF147 begins
abbrev pub sin_place : ℕ → ℕ → ℕ → ℕ
sin_place k n m = cond (named k) (22 + 8 * (n + m)) 12

-- a header as one number
pub record Coded (s : List ℕ) (r : ℕ) : Type 0 where
  pub refused : (refusal s ≡ 0 → ⊥) → (r ≡ refusal s) × (r < 256)
  pub read : refusal s ≡ 0 → r ≡ (number_of s * 256 + sin_of s) * 256
