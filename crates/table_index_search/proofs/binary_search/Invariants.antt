-- `table_index_search::binary_search` meets its contract: what the rule gives among the entries left is what it gives among all, and each round leaves fewer.
-- Assumes nothing.
use Prim.Native.Nat.{◌+◌, ◌-◌, ◌≤◌}
use mathlib.Core.Path.{◌≡◌}
use Rattle.table_index_search.specs.Index.{entries}
use Rattle.table_index_search.specs.Private.{binary_search}
use Rattle.table_index_search.proofs.binary_search.Given as goal

abbrev pub invariant-loop-lo : goal.invariant-loop-lo
invariant-loop-lo l = (l.end ≤ entries) × ((l.probes + (l.end - l.lo) ≤ entries) × (binary_search entries l.index l.key 0 entries 0 ≡ binary_search (entries - l.probes) l.index l.key l.lo l.end l.probes))

abbrev pub decreases-loop-lo : goal.decreases-loop-lo
decreases-loop-lo l = l.end - l.lo
