-- `layout_reader::read_each` meets its contract.
-- Assumes nothing.
use native.Mathlib.Omega.{arith}
use lib.ListN.{length, replicate}
use Rattle.layout_reader.proofs.Fill.{row-starts, same-fits, same-goes-on, same_ends}
use Rattle.layout_reader.proofs.read_each.Goals as goal

pub loop-i-init : goal.loop-i-init
loop-i-init c = let a = c.args in row-starts (replicate (length a.values.now) a.e) a.p a.s.now a.values.now a.present.now

pub read_place-at-requires : goal.read_place-at-requires
read_place-at-requires c = let a = c.args in
    let l = c.loop-i in
    let f = same-fits a.e a.p a.s.now a.values.now a.present.now l.values l.present l.at l.i l.invariant (omega (arith, l.invariant.values.sized)) in
    (omega arith, (omega arith, (omega (arith, l.invariant.values.sized), omega (arith, l.invariant.present.sized))))

pub loop-i-preserved : goal.loop-i-preserved
loop-i-preserved c = let a = c.args in
    let l = c.loop-i in
    let e = c.read_place-at.ensures in
    rw (e.place, e.values, e.present)
    (same-goes-on a.e a.p a.s.now a.values.now a.present.now l.values l.present l.at l.i l.invariant (omega (arith, l.invariant.values.sized)) (omega (arith, l.invariant.present.sized)))

pub returns : goal.returns
returns c = let a = c.args in
    let l = c.loop-i in
    let p = same_ends a.e a.p a.s.now a.values.now a.present.now l.values l.present l.at l.i l.invariant (omega (arith, l.invariant.values.sized)) in record { values = p.0; present = p.1 }
