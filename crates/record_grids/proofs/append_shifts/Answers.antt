-- `record_grids::append_shifts` meets its contract: the same place in both buffers.
-- Assumes nothing.
use Rattle.std.proofs.Common.{rules, arith, refl, None}
use Rattle.layout.specs.Layout.{value_in, present_in}
use Rattle.record_rows.proofs.Appends.{appends, same_row}
use Rattle.record_rows.proofs.Maps.{mapped}
use Rattle.record_grids.specs.Grids.{shifts_row}
use Rattle.record_grids.proofs.append_shifts.Goals as goal

pub returns : goal.returns
unfolding shifts_row
returns c = let m = c.map.ensures.items in
    let n = c.map-2.ensures.items in
    let v = same_row (mapped value_in None _ refl m (λ x y p q k. search rules)) (appends (omega (arith, m.long)) c.append.ensures.answer c.append.ensures.output) in
    let p = same_row (mapped present_in None _ refl n (λ x y p q k. search rules)) (appends (omega (arith, n.long)) c.append-2.ensures.answer c.append-2.ensures.output) in
    record { values = record { room = v.room; place = p.place; stored = v.stored }; present = p }
