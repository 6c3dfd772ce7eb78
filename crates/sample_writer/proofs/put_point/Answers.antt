-- `sample_writer::put_point` meets its contract.
-- Assumes nothing.
use mathlib.Core.Path.{◌∙◌}
use native.Mathlib.Omega.{arith}
use Rattle.arith.proofs.Back.{held}
use Rattle.sample_writer.proofs.Fill.{begins, and-number, and-whole, filled, put-point-is}
use Rattle.sample_writer.proofs.put_point.Goals as goal

pub returns : goal.returns
returns c = let b1 = and-number (begins c.args.out.now) 1 2 c.put_at.new.out (omega (arith, c.requires)) c.put_at.ensures in
    let b2 = and-number b1 2 25 c.put_at-2.new.out (omega (arith, c.requires)) c.put_at-2.ensures in
    let b3 = and-number b2 1 c.args.component c.put_at-3.new.out (omega (arith, c.requires)) (rw c.from.ensures at c.put_at-3.ensures) in
    let b4 = and-whole b3 _ c.put_whole.new.out (omega (arith, c.requires)) c.put_whole.ensures in
    let b5 = and-whole b4 _ c.put_whole-2.new.out (omega (arith, c.requires)) c.put_whole-2.ensures in
    let b6 = and-whole b5 _ c.put_whole-3.new.out (omega (arith, c.requires)) c.put_whole-3.ensures in
    filled b6 (omega (arith, c.requires))
    ∙ put-point-is (record { component = c.args.component; north = c.args.north; east = c.args.east; claim = c.args.claim }) _ _ _ c.ranges.component.fits
    (held c.args.north c.ranges.north.sfits)
    (held c.args.east c.ranges.east.sfits)
    (held c.args.claim c.ranges.claim.sfits)
