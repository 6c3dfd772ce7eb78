-- `report_tally::points_in` meets its contract: the numbers passed and the next are a part of the points.
-- Assumes nothing.
use Rattle.std.proofs.Common.{arith}
use Rattle.report_tally.proofs.Totals.{total-one, total-part}
use Rattle.report_tally.proofs.points_in.Goals as goal

pub returns-then-n-k : goal.returns-then-n-k
returns-then-n-k c = omega (arith, c.loop-k.invariant.0, total-part c.args.t.now.refused c.loop-k.k-index)

pub loop-k-preserved : goal.loop-k-preserved
loop-k-preserved c = let l = c.loop-k in
    (omega (arith, l.invariant.0, total-one c.args.t.now.refused l.k-index), omega arith)
