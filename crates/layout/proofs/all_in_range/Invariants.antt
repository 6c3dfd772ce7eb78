-- `layout::all_in_range` meets its contract.
-- Assumes nothing.
use mathlib.Core.Path.{◌≡◌}
use lib.ListN.{drop}
use Rattle.layout.specs.Layout.{all_take, decode_all}
use Rattle.layout.proofs.Loop.{At}
use Rattle.layout.proofs.all_in_range.Given as goal

abbrev pub invariant-loop-e : goal.invariant-loop-e
invariant-loop-e l = At l.layout 0 l.at l.e-index × (all_take (drop l.e-index l.layout) (decode_all (drop l.e-index l.layout) l.at l.s) ≡ all_take l.layout (decode_all l.layout 0 l.s))
