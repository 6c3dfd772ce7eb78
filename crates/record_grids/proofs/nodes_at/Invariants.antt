-- `record_grids::nodes_at` meets its contract: a loop that fills the nodes from the front.
-- Assumes nothing.
use Prim.Native.Nat.{ℕ, ◌+◌, ◌*◌, ◌-◌, ◌≤◌}
use mathlib.Core.Path.{◌≡◌}
use mathlib.Core.List.{List, ◌++◌}
use lib.IntN.{ℤ}
use lib.ListN.{drop}
use Rattle.arith.specs.Lists.{up_to}
use Rattle.layout.specs.Layout.{row_of}
use Rattle.record_rows.specs.Numbers.{says}
use Rattle.record_grids.specs.declared.Shifts.{Shifts}
use Rattle.record_grids.specs.Grids.{shifts_at}
use Rattle.record_grids.proofs.nodes_at.Given as goal

-- node j of the nodes from place k on
abbrev pub node : List ℤ → List ℕ → ℕ → ℕ → Shifts
node values present k j = shifts_at (says (row_of values present)) (k + 3 * j)

abbrev pub invariant-loop-i : goal.invariant-loop-i
invariant-loop-i l = (l.i ≤ 16) × (l.nodes ≡ up_to (node l.values l.present l.k) l.i ++ drop l.i l.initial.nodes)

abbrev pub decreases-loop-i : goal.decreases-loop-i
decreases-loop-i l = 16 - l.i
