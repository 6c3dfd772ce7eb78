-- `grid_row_refusals::places_refusal` meets its contract: the places passed are not refused.
-- Assumes nothing.
use mathlib.Core.Path.{◌≡◌, refl, sym, ap, ◌∙◌, subst₂}
use mathlib.Core.List.{List}
use Prim.Native.Nat.{ℕ, ◌+◌, ◌-◌, ◌≤◌}
use native.Mathlib.Omega.{arith}
use lib.IntN.{ℤ, pos}
use mir.Syntax.{w64}
use mir.Val.{to_z, of_z}
use Rattle.arith.proofs.Machine.{is-back}
use Rattle.grid_row_refusals.specs.Private.{Ready, Looked, first_refused}
use Rattle.grid_row_refusals.proofs.Rest.{passes_on, stops-there}
use Rattle.grid_row_refusals.proofs.places_refusal.Given as goal

abbrev pub invariant-loop-i : goal.invariant-loop-i
invariant-loop-i l =
    (l.i ≤ l.count) × (first_refused l.message l.component l.north l.east (pos l.step) 0 l.i ≡ 0)

abbrev pub decreases-loop-i : goal.decreases-loop-i
decreases-loop-i l = l.count - l.i
