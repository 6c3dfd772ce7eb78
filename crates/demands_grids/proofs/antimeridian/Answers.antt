-- `demands_grids::antimeridian` carries its theorems: longitudes across 180 degrees.
-- Assumes nothing.
use Rattle.demands_grids.proofs.Grids.{east-turned, both-answers}
use Rattle.demands_grids.proofs.antimeridian.Goals as goal

pub returns : goal.returns
returns c = record { turned = east-turned; sides = both-answers }
