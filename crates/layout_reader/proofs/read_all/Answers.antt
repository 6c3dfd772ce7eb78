-- `layout_reader::read_all` meets its contract.
-- Assumes nothing.
use mathlib.Core.Path.{refl}
use native.Mathlib.Omega.{arith}
use lib.ListN.{get_or}
use Rattle.layout_reader.proofs.Fill.{row-starts, row_fits, row-goes-on, row_ends}
use Rattle.layout_reader.proofs.read_all.Goals as goal

pub loop-i-init : goal.loop-i-init
loop-i-init c = let a = c.args in row-starts a.layout.now a.p a.s.now a.values.now a.present.now

pub read_place-at-requires : goal.read_place-at-requires
read_place-at-requires c = let a = c.args in
    let l = c.loop-i in
    let f = row_fits a.layout.now a.p a.s.now a.values.now a.present.now l.values l.present l.at l.i l.invariant (get_or a.layout.now l.i 0) refl (omega arith) in
    (omega arith, (omega arith, (omega (arith, l.invariant.values.sized), omega (arith, l.invariant.present.sized))))

pub loop-i-preserved : goal.loop-i-preserved
loop-i-preserved c = let a = c.args in
    let l = c.loop-i in
    let e = c.read_place-at.ensures in
    rw (e.place, e.values, e.present)
    (row-goes-on a.layout.now a.p a.s.now a.values.now a.present.now l.values l.present l.at l.i l.invariant (get_or a.layout.now l.i 0) refl (omega arith) (omega (arith, l.invariant.values.sized)) (omega (arith, l.invariant.present.sized)))

pub returns : goal.returns
returns c = let a = c.args in
    let l = c.loop-i in
    let p = row_ends a.layout.now a.p a.s.now a.values.now a.present.now l.values l.present l.at l.i l.invariant (omega (arith, l.invariant.place.count)) in record { values = p.0; present = p.1 }
