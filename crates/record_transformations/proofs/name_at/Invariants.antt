-- `record_transformations::name_at` meets its contract: a loop that fills the characters from the front.
-- Assumes nothing.
use Rattle.std.proofs.Common.{ℤ, Option}
use Prim.Native.Nat.{ℕ, ◌+◌, ◌-◌, ◌%◌, ◌≤◌}
use mathlib.Core.Path.{◌≡◌}
use mathlib.Core.List.{◌++◌}
use lib.ListN.{drop}
use Rattle.arith.specs.Lists.{up_to}
use Rattle.arith.specs.Whole.{natural}
use Rattle.layout.specs.Layout.{row_of}
use Rattle.record_rows.specs.Numbers.{says, number_at}
use Rattle.record_transformations.proofs.name_at.Given as goal

-- character i of the name whose counter stands at place k
abbrev pub char_from : (ℕ → Option ℤ) → ℕ → ℕ → ℕ
char_from v k i = natural (number_at v (k + 1 + i)) % 256

abbrev pub invariant-loop-j : goal.invariant-loop-j
invariant-loop-j l = (l.j ≤ l.length) × (l.chars ≡ up_to (char_from (says (row_of l.values l.present)) l.k) l.j ++ drop l.j l.initial.chars)

abbrev pub decreases-loop-j : goal.decreases-loop-j
decreases-loop-j l = l.length - l.j
