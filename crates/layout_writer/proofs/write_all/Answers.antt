-- `layout_writer::write_all` meets its contract.
-- Assumes nothing.
use mathlib.Core.Path.{◌∙◌}
use native.Mathlib.Omega.{arith}
use lib.IntN.{pos}
use lib.ListN.{get_or}
use Rattle.field.proofs.Sign.{bits-z}
use Rattle.layout.specs.Layout.{row_takes}
use Rattle.layout.proofs.Says.{from-T, of-true}
use Rattle.layout.proofs.Loop.{row-lengths, at-fits, total-most}
use Rattle.layout_writer.proofs.Loop.{writing-starts, writing-goes-on, writing-ends, entry-taken}
use Rattle.layout_writer.proofs.write_all.Goals as goal

pub loop-i-init : goal.loop-i-init
loop-i-init c = let a = c.args in
    let t = from-T (row_takes a.layout.now a.values.now a.present.now) c.requires.1.1 in
    (writing-starts a.s.now a.layout.now a.values.now a.present.now t, row-lengths a.layout.now a.values.now a.present.now t)

pub write_entry-requires : goal.write_entry-requires
write_entry-requires c = let a = c.args in
    let l = c.loop-i in
    let m = total-most a.layout.now in
    let f = at-fits a.layout.now 0 l.at l.i l.invariant.0.place (omega arith) in
    let n = l.invariant.0.sized in
    let t = entry-taken a.s.now a.layout.now a.values.now a.present.now l.s l.at l.i l.invariant.0 (omega arith) (omega arith) (omega arith) in
    (omega arith, (omega arith, rw (bits-z (get_or a.values.now l.i (pos 0)) (record { sfits = omega arith })) (of-true t)))

pub overflow_add-at : goal.overflow_add-at
overflow_add-at c = let es = c.args.layout.now in
    let l = c.loop-i in
    omega (arith, total-most es, at-fits es 0 l.at l.i l.invariant.0.place (omega arith))

pub loop-i-preserved : goal.loop-i-preserved
loop-i-preserved c = let a = c.args in
    let l = c.loop-i in
    let z = bits-z (get_or a.values.now l.i (pos 0)) (record { sfits = omega arith }) in
    (writing-goes-on a.s.now a.layout.now a.values.now a.present.now l.s l.at l.i l.invariant.0 c.write_entry.new.s (omega arith) (omega arith) (omega arith) (c.write_entry.ensures ∙ rw z), l.invariant.1)

pub returns : goal.returns
returns c = let a = c.args in
    let l = c.loop-i in
    writing-ends a.s.now a.layout.now a.values.now a.present.now l.s l.at l.i l.invariant.0 (omega arith)

pub bounds-values-i : goal.bounds-values-i
bounds-values-i c = omega (arith, c.loop-i.invariant.1)

pub bounds-present-i : goal.bounds-present-i
bounds-present-i c = omega (arith, c.loop-i.invariant.1)

pub shape_of-s : goal.shape_of-s
shape_of-s c = c.loop-i.invariant.0.sized
