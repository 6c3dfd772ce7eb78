-- `record_transformation_rows::point_and_last` meets its contract: each place is that of the field that the definition names.
-- Assumes nothing.
use Rattle.std.proofs.Common.{rules, [], ◌∷◌, Some}
use Rattle.arith.proofs.Back.{held}
use Rattle.record_rows.specs.Numbers.{pair_row}
use Rattle.record_transformations.specs.Transformations.{point_row, ellipsoids_row}
use Rattle.record_transformation_rows.proofs.point_and_last.Goals as goal

pub returns : goal.returns
unfolding point_row ellipsoids_row pair_row
returns c = let o = c.args.o in
    let e = c.args.e in
    let q = c.args.q in
    λ i. o.x ∷ o.y ∷ o.z ∷ Some (held e.source_major (search rules) i) ∷ Some (held e.source_minor (search rules) i) ∷ Some (held e.target_major (search rules) i) ∷ Some (held e.target_minor (search rules) i) ∷ Some (held q.horizontal (search rules) i) ∷ Some (held q.vertical (search rules) i) ∷ []
