-- `record_transformation_rows::last` meets its contract: each place is that of the field that the definition names.
-- Assumes nothing.
use Rattle.std.proofs.Common.{rules, [], ◌∷◌, Some}
use Rattle.arith.proofs.Back.{held}
use Rattle.record_rows.specs.Numbers.{pair_row}
use Rattle.record_transformations.specs.Transformations.{ellipsoids_row}
use Rattle.record_transformation_rows.proofs.last.Goals as goal

pub returns : goal.returns
unfolding ellipsoids_row pair_row
returns c = let e = c.args.e in
    let q = c.args.q in
    λ i. Some (held e.source_major (search rules) i) ∷ Some (held e.source_minor (search rules) i) ∷ Some (held e.target_major (search rules) i) ∷ Some (held e.target_minor (search rules) i) ∷ Some (held q.horizontal (search rules) i) ∷ Some (held q.vertical (search rules) i) ∷ []
