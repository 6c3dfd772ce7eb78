-- `record_projections::oblique_mercator_row` meets its contract: each place is that of the field that the definition names.
-- Assumes nothing.
use Rattle.std.proofs.Common.{rules, arith, refl, [], ◌∷◌, Some, None}
use Rattle.arith.proofs.Back.{held}
use Rattle.layout.specs.Layout.{value_in, present_in}
use Rattle.record_rows.proofs.Maps.{mapped, numbered}
use Rattle.record_projections.specs.Projections.{oblique_mercator_row}
use Rattle.record_projections.proofs.oblique_mercator_row.Goals as goal

pub returns : goal.returns
unfolding oblique_mercator_row
returns c = let r = c.args.r in
    numbered (oblique_mercator_row r) c.numbers_of.ensures
    (mapped value_in None _ refl c.map.ensures.items (λ x y p q k. search rules))
    (mapped present_in None _ refl c.map-2.ensures.items (λ x y p q k. search rules))
    (λ i. Some (held r.number (search rules) i) ∷ Some (held r.sin (search rules) i) ∷ Some (held r.projection (search rules) i) ∷ Some (held r.rectified (search rules) i) ∷ r.latitude ∷ r.longitude ∷ Some (held r.azimuth (search rules) i) ∷ r.difference ∷ Some (held r.scale (search rules) i) ∷ Some (held r.easting (search rules) i) ∷ r.northing ∷ [])
    (omega arith)
