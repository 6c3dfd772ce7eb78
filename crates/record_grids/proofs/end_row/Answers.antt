-- `record_grids::end_row` meets its contract.
-- Assumes nothing.
use mathlib.Core.List.{[], ◌∷◌, ◌++◌}
use Rattle.arith.proofs.Back.{held, backs}
use Rattle.record_rows.specs.Numbers.{pair_row}
use Rattle.record_grids.proofs.end_row.Goals as goal

pub returns : goal.returns
unfolding pair_row
returns c = let a = c.args in
    λ i. backs (a.methods.horizontal ∷ a.methods.vertical ∷ []) _ c.struct_told-1.given i
    ++ backs (a.quality.horizontal ∷ a.quality.vertical ∷ []) _ c.struct_told-2-1.given i
    ++ (held a.day c.ranges.day.sfits i ∷ [])
