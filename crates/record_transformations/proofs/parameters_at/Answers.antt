-- `record_transformations::parameters_at` meets its contract: each place read is the one that the definition names.
-- Assumes nothing.
use Rattle.record_transformations.specs.Transformations.{parameters_at}
use Rattle.record_transformations.proofs.parameters_at.Goals as goal

pub returns : goal.returns
unfolding parameters_at
returns c = λ i. record {
  dx = c.says_at.ensures i;
  dy = c.says_at-2.ensures i;
  dz = c.says_at-3.ensures i;
  rx = c.says_at-4.ensures i;
  ry = c.says_at-5.ensures i;
  rz = c.says_at-6.ensures i;
  ds = c.says_at-7.ensures i;
}
