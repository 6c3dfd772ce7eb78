-- `demands_grids::shifts` carries its theorems: the answer, shared edges, both calls, nodes without weight, the bounds on sum and count, and the merged call.
-- Assumes nothing.
use Rattle.demands_grids.proofs.Grids.{grid-answer, shared-edges, both-calls, held-written, only-weighted, lossless, sum_bound, three-parts, component-never-given}
use Rattle.demands_grids.proofs.shifts.Goals as goal

pub returns : goal.returns
returns c = record { answer = grid-answer; edges = shared-edges; calls = both-calls; held = held-written; nodes = only-weighted; lossless = lossless; sum = sum_bound; three = three-parts; component = component-never-given }
