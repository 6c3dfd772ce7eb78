-- `record_grids::grid_of` meets its contract: each part is read where the definition reads it.
-- Assumes nothing.
use mathlib.Core.Path.{◌∙◌}
use Rattle.arith.proofs.Back.{held}
use Rattle.record_grids.specs.Grids.{grid_of}
use Rattle.record_grids.proofs.grid_of.Goals as goal

pub returns : goal.returns
unfolding grid_of
returns c = λ i. record {
  number = (held _ c.number_at.type_inv ∙ c.number_at.ensures) i;
  sin = (held _ c.number_at-2.type_inv ∙ c.number_at-2.ensures) i;
  indicators = c.pair_at.ensures i;
  origin = c.origin_at.ensures i;
  spacing = c.spacing_at.ensures i;
  mean = c.shifts_at.ensures i;
  nodes = c.nodes_at.ensures i;
  methods = c.pair_at-2.ensures i;
  quality = c.pair_at-3.ensures i;
  day = (held _ c.number_at-3.type_inv ∙ c.number_at-3.ensures) i;
}
