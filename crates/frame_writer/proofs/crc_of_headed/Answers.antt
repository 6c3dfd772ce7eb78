-- `frame_writer::crc_of_headed` meets its contract: the zero byte before the head leaves the CRC as it is.
-- Assumes nothing.
use native.Mathlib.Omega.{arith}
use mathlib.Core.Path.{◌∙◌}
use Rattle.frame_writer.proofs.Put.{crc-headed}
use Rattle.frame_writer.proofs.crc_of_headed.Goals as goal

pub returns : goal.returns
returns c = let m = c.args.m.now in
    let low = c.requires in
    c.crc_of_both.ensures ∙ rw c.to_be_bytes.ensures (crc-headed m _ _ _ _ (omega arith) (omega arith) (omega arith) (omega arith))
