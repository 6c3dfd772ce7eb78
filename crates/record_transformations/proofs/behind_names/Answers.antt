-- `record_transformations::behind_names` meets its contract.
-- Assumes nothing.
use mathlib.Core.Path.{ap, ◌∙◌}
use Prim.Native.Nat.{ℕ, ◌+◌}
use native.Mathlib.Omega.{arith}
use Rattle.layout.specs.Layout.{row_of}
use Rattle.record_rows.specs.Numbers.{says, counter_at}
use Rattle.record_transformations.proofs.behind_names.Goals as goal

pub returns : goal.returns
returns c = let a = c.args in
    let n = c.counter_at-n.ensures.value in
    let m = c.counter_at-m.ensures.value ∙ ap (λ (k : ℕ). counter_at (says (row_of a.values.now a.present.now)) (2 + k)) n in record { value = λ i. 3 + n i + m i; upper_bound = omega arith }
