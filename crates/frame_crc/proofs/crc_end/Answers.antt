-- `frame_crc::crc_end` meets its contract: what is left of the bytes takes the remainder so far to the last.
-- Assumes nothing.
use mathlib.Core.Path.{sym, ◌∙◌}
use native.Mathlib.Omega.{arith}
use Rattle.frame_crc.proofs.Linear.{byte-lt, round, done}
use Rattle.frame_crc.proofs.crc_end.Goals as goal

pub loop-x-preserved : goal.loop-x-preserved
loop-x-preserved c = let l = c.loop-x in
    let e = c.crc_byte-c.ensures in
    (rw e (byte-lt l.c _ l.invariant.0), rw e (round l.c c.args.s.now l.x-index (omega arith)) ∙ l.invariant.1)

pub returns : goal.returns
returns c = let l = c.loop-x in
    sym (done l.c _ l.x-index (omega arith)) ∙ l.invariant.1
