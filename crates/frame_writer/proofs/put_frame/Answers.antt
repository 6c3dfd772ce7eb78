-- `frame_writer::put_frame` meets its contract.
-- Assumes nothing.
use Rattle.frame_crc.proofs.Linear.{crc-lt}
use Rattle.frame_writer.proofs.Put.{crc-place, frame-put}
use Rattle.frame_writer.proofs.put_frame.Goals as goal

pub put_crc-requires : goal.put_crc-requires
put_crc-requires c = (rw c.crc_of_headed.ensures (crc-lt _), crc-place c.args.m.now c.args.out.now c.put_headed.new.out c.requires.1 c.put_headed.ensures)

pub returns : goal.returns
returns c = frame-put c.args.m.now c.args.out.now c.put_headed.new.out c.requires.1 c.put_headed.ensures
    c.crc_of_headed.result c.put_crc.new.out c.crc_of_headed.ensures c.put_crc.ensures
