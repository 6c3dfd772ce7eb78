-- `record_transformation_rows::helmert_row` meets its contract: its parts are those of the definition.
-- Assumes nothing.
use Rattle.std.proofs.Common.{rules, ◌∙◌, ap, length, None, ◌&&◌}
use Rattle.arith.proofs.Back.{held}
use Rattle.layout.specs.Layout.{value_in, present_in}
use Rattle.record_rows.specs.Numbers.{values_of, present_of, pair_row}
use Rattle.record_rows.specs.Inner.{numbers}
use Rattle.record_rows.proofs.Maps.{mapped}
use Rattle.record_transformations.specs.Private.{shared, last}
use Rattle.record_transformations.specs.Transformations.{good_name, system_row, area_row, parameters_row, point_row, ellipsoids_row}
use Rattle.record_transformations.proofs.Parts.{helmert-joined}
use Rattle.record_transformation_rows.proofs.Appends.{three-parts}
use Rattle.record_transformation_rows.proofs.helmert_row.Goals as goal

pub returns : goal.returns
unfolding system_row area_row parameters_row point_row ellipsoids_row pair_row
returns c = let r = c.args.r in
    let s = c.shared-shared.ensures in
    let t = c.last-tail.ensures in
    three-parts (good_name r.source && good_name r.target) _ r.number r.source r.target (shared r.system r.area r.parameters) (last r.ellipsoids r.quality)
    (held r.number (search rules))
    (mapped value_in None _ (ap length s) c.map.ensures.items (λ x y p q k. search rules) ∙ ap values_of s)
    (mapped value_in None _ (ap length t) c.map-3.ensures.items (λ x y p q k. search rules) ∙ ap values_of t)
    (mapped present_in None _ (ap length s) c.map-2.ensures.items (λ x y p q k. search rules) ∙ ap present_of s)
    (mapped present_in None _ (ap length t) c.map-4.ensures.items (λ x y p q k. search rules) ∙ ap present_of t)
    c.named_row.ensures
    ∙ ap (numbers (good_name r.source && good_name r.target)) (helmert-joined r)
