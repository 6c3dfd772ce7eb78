-- `report_tally::points_in` meets its contract. The loop's invariant: n is the points answered and those refused under the numbers passed, fewer than 10,000.
-- Assumes nothing.
use Rattle.std.proofs.Common.{◌≡◌, ◌+◌, ◌<◌, take}
use Rattle.report_update.specs.Numbers.{total}
use Rattle.report_tally.proofs.points_in.Given as goal

abbrev pub invariant-loop-k : goal.invariant-loop-k
invariant-loop-k l = (l.n ≡ l.initial.n + total (take l.k-index l.t.refused)) × (l.n < 10000)
