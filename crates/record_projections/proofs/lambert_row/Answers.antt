-- `record_projections::lambert_row` meets its contract: each place is that of the field that the definition names.
-- Assumes nothing.
use Rattle.std.proofs.Common.{rules, arith, refl, [], ◌∷◌, Some, None}
use Rattle.arith.proofs.Back.{held}
use Rattle.layout.specs.Layout.{value_in, present_in}
use Rattle.record_rows.proofs.Maps.{mapped, numbered}
use Rattle.record_projections.specs.Projections.{lambert_row}
use Rattle.record_projections.proofs.lambert_row.Goals as goal

pub returns : goal.returns
unfolding lambert_row
returns c = let r = c.args.r in
    numbered (lambert_row r) c.numbers_of.ensures
    (mapped value_in None _ refl c.map.ensures.items (λ x y p q k. search rules))
    (mapped present_in None _ refl c.map-2.ensures.items (λ x y p q k. search rules))
    (λ i. Some (held r.number (search rules) i) ∷ Some (held r.sin (search rules) i) ∷ Some (held r.projection (search rules) i) ∷ r.latitude ∷ r.longitude ∷ r.parallel1 ∷ r.parallel2 ∷ Some (held r.easting (search rules) i) ∷ r.northing ∷ [])
    (omega arith)
