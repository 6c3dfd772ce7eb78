-- `frame_crc::crc_byte` meets its contract: the high bits and the byte go in together.
-- Assumes nothing.
use mathlib.Core.Path.{ap, ◌∙◌}
use Prim.Native.Nat.{◌*◌, ◌/◌, ◌%◌, ◌+◌}
use native.Mathlib.Omega.{arith}
use lib.Bits.{bit_xor}
use lib.ListN.{get_or}
use Rattle.frame_crc.proofs.Parts.{byte}
use Rattle.frame_crc.proofs.crc_byte.Goals as goal

pub returns : goal.returns
returns c = let a = c.args in
    let y = bit_xor (a.c / 65536) a.x in
    ap (λ t. bit_xor (a.c % 65536 * 256) (bit_xor (get_or t (16 + y / 16) 0) (get_or t (y % 16) 0))) c.requires.0
    ∙ byte a.c a.x c.requires.1 (omega arith)
