-- `record_grids::settings_of` meets its contract.
-- Assumes nothing.
use Rattle.arith.proofs.Back.{held}
use Rattle.record_grids.proofs.settings_of.Goals as goal

pub returns : goal.returns
returns c = let r = c.args.r in
    λ i. record {
      number = held r.number c.struct_told-1.given.0.1 i;
      indicators = r.indicators;
      origin = r.origin;
      spacing = r.spacing;
      methods = r.methods;
    }
