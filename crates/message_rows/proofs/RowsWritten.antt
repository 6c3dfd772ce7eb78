-- The layout that a row calls for, and the ways out of writing one.
-- Assumes nothing.
use Rattle.std.proofs.Common.{Option}
use Prim.Native.Nat.{ℕ, ◌+◌, ◌≤◌, ◌<◌}
use native.Mathlib.Omega.{arith}
use mathlib.Core.Path.{◌≡◌, ◌∙◌}
use mathlib.Core.Bool.{Bool}
use mathlib.Core.List.{List}
use lib.IntN.{ℤ}
use lib.ListN.{length}
use borrow.Author.Tests.{lt-leb, le-leb}
use Rattle.arith.specs.Whole.{natural}
use Rattle.layout.specs.Layout.{row_of, row_takes, encode_all, stored, answered}
use Rattle.layout.specs.Inner.{encode_refusal}
use Rattle.layout.specs.declared.Written.{Written}
use Rattle.record_rows.specs.Numbers.{says, number_at, counter_at}
use Rattle.record_rows.proofs.Rows.{counter-most}
use Rattle.layout_tables.specs.Inner.{layout_by}
use Rattle.layout_tables.proofs.Length.{layout-by}
use Rattle.message_rows.specs.Message.{row_layout, write_refusal, message, write_row, row_held}

-- the layout of a row's number and counters
pub row-layout-by : (v : List (Option ℤ)) {k n m : ℕ} → k ≡ natural (number_at (says v) 0) → n ≡ counter_at (says v) 1 → m ≡ counter_at (says v) (2 + n) → layout_by k n m ≡ row_layout v
unfolding row_layout
row-layout-by v {k} {n} {m} a b c =
    layout-by k n m (omega (arith, counter-most (says v) 1)) (omega (arith, counter-most (says v) (2 + n))) ∙ rw (a, c, b)

-- ---- writing

-- what a layout's writer answers, and the output then
abbrev EncodedBy : List ℕ → List ℤ → List ℕ → List ℕ → Written → List ℕ → Type 0
EncodedBy es z b out d o =
    let r : ℕ = encode_refusal es z b (length out) in
    let m : List ℕ = encode_all es (row_of z b) in
    (d ≡ answered r m) × (o ≡ stored r m out)

module _ (z : List ℤ) (b out : List ℕ) where
  abbrev number : ℕ
  number = natural (number_at (says (row_of z b)) 0)

  pub write_low : number < 1021 → write_refusal z b (length out) ≡ 5
  unfolding write_refusal
  write_low h = rw (lt-leb 1021 number h)

  module _ (low : 1021 ≤ number) where
    pub write-high : 1027 < number → write_refusal z b (length out) ≡ 5
    unfolding write_refusal
    write-high h = rw (le-leb 1021 number low, lt-leb number 1027 h)

    module _ (high : number ≤ 1027) where
      write_known : encode_refusal (row_layout (row_of z b)) z b (length out) ≡ write_refusal z b (length out)
      unfolding write_refusal encode_refusal
      write_known = rw (le-leb 1021 number low, le-leb number 1027 high)

      -- what was written by the layout
      pub row-written-by : {es : List ℕ} {d : Written} {o : List ℕ} → es ≡ row_layout (row_of z b) → EncodedBy es z b out d o
          → (d ≡ (write_row z b out).answer) × (o ≡ (write_row z b out).output)
      unfolding message
      row-written-by e f = rw (e, write_known) at f

-- ---- a row that a message of its kind holds

pub row-held-by : (lo hi : ℕ) (z : List ℤ) (b : List ℕ) {es : List ℕ} {k : ℕ} {r : Bool} → k ≡ natural (number_at (says (row_of z b)) 0) → lo ≤ k → k ≤ hi
    → es ≡ row_layout (row_of z b) → r ≡ row_takes es z b → r ≡ row_held lo hi z b
unfolding row_held
row-held-by lo hi z b {es} {k} e p q f g = rw (← e, ← f, le-leb lo k p, le-leb k hi q) g
