-- `grid_rows::fill_row` meets its contract: the places in front of i are filled.
-- Assumes nothing.
use mathlib.Core.Path.{◌≡◌, refl, sym, ap, ◌∙◌, subst₂}
use mathlib.Core.List.{List, ◌++◌}
use Prim.Native.Nat.{ℕ, ◌+◌, ◌-◌, ◌≤◌}
use native.Mathlib.Omega.{arith}
use lib.IntN.{ℤ, pos}
use lib.ListN.{length, drop}
use mir.Syntax.{w64}
use mir.Val.{to_z, of_z}
use Rattle.arith.specs.Lists.{up_to}
use Rattle.arith.proofs.Machine.{is-back}
use Rattle.grid_rows.specs.Private.{Answered, count_at}
use Rattle.grid_rows.proofs.Fills.{fills-on}
use Rattle.grid_rows.proofs.fill_row.Given as goal

abbrev pub invariant-loop-i : goal.invariant-loop-i
invariant-loop-i l =
    (l.i ≤ l.count) × (length l.row ≡ length l.initial.row) × (l.row ≡ up_to (count_at l.message l.component l.north l.east (pos l.step)) l.i ++ drop l.i l.initial.row)

abbrev pub decreases-loop-i : goal.decreases-loop-i
decreases-loop-i l = l.count - l.i
