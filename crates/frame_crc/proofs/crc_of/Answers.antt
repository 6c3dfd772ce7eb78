-- `frame_crc::crc_of` meets its contract: antt computes all 128 numbers of the table.
-- Assumes nothing.
use native.Mathlib.Omega.{arith}
use mathlib.Core.Path.{refl}
use Rattle.frame_crc.specs.Crc.{reduced, crc_bit, crc_bits, crc}
use Rattle.frame_crc.specs.Private.{part, parts}
use Rattle.frame_crc.proofs.crc_of.Goals as goal

pub crc_by-requires : goal.crc_by-requires
unfolding reduced crc_bit crc_bits part parts
crc_by-requires c = (refl, omega arith)

pub returns : goal.returns
unfolding crc
returns c = c.crc_by.ensures
