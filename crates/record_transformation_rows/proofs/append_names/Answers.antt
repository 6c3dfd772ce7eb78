-- `record_transformation_rows::append_names` meets its contract: one row behind another.
-- Assumes nothing.
use Rattle.std.proofs.Common.{Some}
use native.Mathlib.Omega.{arith}
use Rattle.arith.proofs.Back.{held}
use mathlib.Core.List.{[], ◌∷◌, ◌++◌}
use Rattle.layout.specs.Layout.{value_in}
use Rattle.record_transformations.specs.Transformations.{name_row}
use Rattle.record_rows.proofs.Appends.{appends, same_row, same_size}
use Rattle.record_transformation_rows.proofs.Appends.{maps-behind, length-name}
use Rattle.record_transformation_rows.proofs.append_names.Goals as goal

pub append_name-b-requires : goal.append_name-b-requires
append_name-b-requires c = let n = appends (omega arith) c.append-a.ensures.answer c.append-a.ensures.output in
    (omega arith, omega (arith, n.place, same_size n))

pub append_name-requires : goal.append_name-requires
append_name-requires c = let n = appends (omega arith) c.append-a.ensures.answer c.append-a.ensures.output in
    (omega arith, omega (arith, n.place, same_size n, same_size c.append_name-b.ensures, c.append_name-b.ensures.place, length-name c.args.source))

pub returns : goal.returns
returns c = let a = c.args in
    let number = same_row (λ i. held a.number c.ranges.number.sfits i ∷ []) (appends (omega arith) c.append-a.ensures.answer c.append-a.ensures.output) in
    let source = maps-behind value_in (Some a.number ∷ []) (name_row a.source) number c.append_name-b.ensures in
    maps-behind value_in ((Some a.number ∷ []) ++ name_row a.source) (name_row a.target) source c.append_name.ensures
