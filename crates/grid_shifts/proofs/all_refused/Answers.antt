-- `grid_shifts::all_refused` meets its contract.
-- Assumes nothing.
use mathlib.Core.Path.{◌∙◌}
use lib.IntN.{pos}
use Rattle.grid_shifts.specs.Shift.{three_of}
use Rattle.grid_shifts.proofs.Parts.{refuses}
use Rattle.grid_shifts.proofs.all_refused.Goals as goal

pub returns : goal.returns
returns c = λ z. let r = c.args.refusal in
    let x = c.refused-r.result in
    let h = c.refused-r.ensures in
    c.three_of.ensures
    ∙ (λ i. three_of (refuses z 0 r (pos 0) x h c.requires i) (refuses z 1 r (pos 0) x h c.requires i) (refuses z 2 r (pos 0) x h c.requires i))
