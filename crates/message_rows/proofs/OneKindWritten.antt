-- The ways out of writing one kind of record.
-- Assumes nothing.
use Prim.Native.Nat.{ℕ, ◌≤◌, ◌<◌}
use mathlib.Core.Path.{◌≡◌}
use mathlib.Core.Bool.{Bool, true, false}
use mathlib.Core.List.{List}
use lib.IntN.{ℤ}
use borrow.Author.Tests.{lt-leb, le-leb}
use Rattle.arith.specs.Whole.{natural}
use Rattle.layout.specs.Layout.{row_of}
use Rattle.record_rows.specs.Numbers.{says, number_at}
use Rattle.message_rows.specs.Message.{write_refusal, kind_write_refusal}

module _ (lo hi : ℕ) (z : List ℤ) (b : List ℕ) (n : ℕ) where
  abbrev number : ℕ
  number = natural (number_at (says (row_of z b)) 0)

  pub record-bad : (good : Bool) → good ≡ false → kind_write_refusal lo hi good z b n ≡ 5
  unfolding kind_write_refusal
  record-bad good e = rw e

  module _ (good : Bool) (g : good ≡ true) where
    pub record-low : number < lo → kind_write_refusal lo hi good z b n ≡ 5
    unfolding kind_write_refusal
    record-low h = rw (g, lt-leb lo number h)

    module _ (low : lo ≤ number) where
      pub record-high : hi < number → kind_write_refusal lo hi good z b n ≡ 5
      unfolding kind_write_refusal
      record-high h = rw (g, le-leb lo number low, lt-leb number hi h)

      pub record-row : number ≤ hi → write_refusal z b n ≡ kind_write_refusal lo hi good z b n
      unfolding kind_write_refusal write_refusal
      record-row h = rw (g, le-leb lo number low, le-leb number hi h)
