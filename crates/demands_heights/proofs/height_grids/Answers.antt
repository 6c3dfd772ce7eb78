-- `demands_heights::height_grids` carries its theorems.
-- Assumes nothing.
use Rattle.demands_heights.proofs.Refusals.{chooses-smallest, no-mean-exactly, only-others, not-looked-at}
use Rattle.demands_heights.proofs.Wanted.{gives-wanted}
use Rattle.demands_heights.proofs.height_grids.Goals as goal

pub returns : goal.returns
returns c = record { smallest = chooses-smallest; none = no-mean-exactly; others = only-others; heights = not-looked-at; wanted = gives-wanted }
