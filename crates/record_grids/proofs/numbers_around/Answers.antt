-- `record_grids::numbers_around` meets its contract: one list behind another in both buffers, and ones behind the presence bytes.
-- Assumes nothing.
use mathlib.Core.Path.{◌∙◌}
use mathlib.Core.List.{[], ◌++◌}
use Prim.Native.Nat.{◌+◌, ◌≤◌}
use native.Mathlib.Omega.{arith}
use lib.ListN.{length, length-append, length-map}
use Rattle.arith.specs.Inner.{padded}
use Rattle.layout.specs.Layout.{value_in, present_in}
use Rattle.record_rows.specs.Numbers.{values_of, present_of}
use Rattle.record_rows.specs.Inner.{present_padded}
use Rattle.record_rows.specs.Private.{Appended}
use Rattle.record_rows.proofs.Appends.{appends, same_size, behind, all-good}
use Rattle.record_grids.specs.Grids.{nodes_row}
use Rattle.record_grids.proofs.Appends.{more-marked}
use Rattle.record_grids.proofs.numbers_around.Goals as goal

pub returns : goal.returns
unfolding padded present_padded
returns c = let start = c.args.start.now in
    let presence = c.args.presence.now in
    let end = c.args.end.now in
    let row = nodes_row c.args.nodes.now in
    let r = c.requires in
    let v = appends (omega (arith, r)) c.append.ensures.answer c.append.ensures.output in
    let b = appends (omega (arith, r)) c.append-a.ensures.answer c.append-a.ensures.output in
    let f : Appended (padded []) 0 start c.append-a.result _ = record { room = v.room; place = omega (arith, b.place, r.0); stored = v.stored } in
    let n = c.append_nodes-b.ensures in
    let e = appends (omega (arith, r, same_size v, same_size n.values, n.place, b.place)) c.append-count.ensures.answer c.append-count.ensures.output in
    let p = behind _ _ (behind _ _ f n.values) e in
    let q = behind _ _ b n.present in
    let h : length (presence ++ present_of row) + length end ≤ 96 =
    omega (arith, p.room, r.0, length-append presence (present_of row), length-append (start ++ values_of row) end, length-append start (values_of row), length-map row value_in, length-map row present_in) in
    all-good _ _ p q ∙ more-marked _ _ (length end) h

pub append_nodes-b-requires : goal.append_nodes-b-requires
append_nodes-b-requires c = let r = c.requires in
    let v = appends (omega (arith, r)) c.append.ensures.answer c.append.ensures.output in
    let b = appends (omega (arith, r)) c.append-a.ensures.answer c.append-a.ensures.output in
    (omega (arith, r, same_size v, b.place), omega (arith, r, same_size b, b.place))
