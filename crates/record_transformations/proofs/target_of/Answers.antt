-- `record_transformations::target_of` meets its contract.
-- Assumes nothing.
use mathlib.Core.Path.{ap, ◌∙◌}
use Prim.Native.Nat.{ℕ, ◌+◌}
use Rattle.layout.specs.Layout.{row_of}
use Rattle.record_rows.specs.Numbers.{says}
use Rattle.record_transformations.specs.Transformations.{name_at}
use Rattle.record_transformations.proofs.target_of.Goals as goal

pub returns : goal.returns
returns c = let a = c.args in
    c.name_at.ensures ∙ ap (λ (k : ℕ). name_at (says (row_of a.values.now a.present.now)) (2 + k)) c.counter_at-n.ensures.value
