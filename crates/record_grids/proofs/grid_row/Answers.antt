-- `record_grids::grid_row` meets its contract: its parts are those of the definition.
-- Assumes nothing.
use Rattle.std.proofs.Common.{rules, ◌∙◌, ap, length, replicate, true, None, ◌++◌}
use Rattle.arith.proofs.Back.{held}
use Rattle.layout.specs.Layout.{value_in, present_in}
use Rattle.record_rows.specs.Numbers.{values_of, present_of, pair_row}
use Rattle.record_rows.specs.Inner.{buffers}
use Rattle.record_rows.proofs.Maps.{mapped}
use Rattle.record_grids.specs.Grids.{nodes_row, origin_row, spacing_row, shifts_row}
use Rattle.record_grids.specs.Private.{start_row, end_row}
use Rattle.record_grids.proofs.Appends.{grid-parts}
use Rattle.record_grids.proofs.grid_row.Goals as goal

pub returns : goal.returns
unfolding pair_row origin_row spacing_row shifts_row
returns c = let r = c.args.r in
    let s = c.start_row-start.ensures ∙ (λ i. start_row (held r.number (search rules) i) (held r.sin (search rules) i) r.indicators r.origin r.spacing r.mean) in
    let v = mapped value_in None _ (ap length s) c.map.ensures.items (λ x y p q k. search rules) ∙ ap values_of s in
    let b = mapped present_in None _ (ap length s) c.map-2.ensures.items (λ x y p q k. search rules) ∙ ap present_of s in
    let e = c.end_row.ensures ∙ (λ i. values_of (end_row r.methods r.quality (held r.day (search rules) i))) in
    c.numbers_around.ensures
    ∙ (λ i. buffers true (v i ++ values_of (nodes_row r.nodes) ++ e i) (b i ++ present_of (nodes_row r.nodes) ++ replicate (length (e i)) 1))
    ∙ grid-parts r
