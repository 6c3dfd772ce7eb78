-- `grid_component::keep` meets its contract.
-- Assumes nothing.
use mathlib.Core.Path.{◌∙◌}
use Rattle.grid_component.specs.Inner.{kept_of}
use Rattle.grid_component.proofs.keep.Goals as goal

pub returns : goal.returns
unfolding kept_of
returns c = λ i. record { refusal = (c.outcome_number.ensures ∙ c.check_kind.ensures) i; settings = c.settings_at.ensures i }
