-- What private functions and proofs need.
-- Assumes nothing.
use Rattle.std.specs.Prelude.{ℕ, ◌*◌, ◌/◌, ◌%◌, ◌^◌, List}
use Rattle.arith.specs.Lists.{up_to}
use Rattle.frame_crc.specs.Crc.{crc_bits}

-- the table by which the code goes: what each four bits leave of the division from 0, 16 numbers for each of the eight places in 32 bits
unfoldable pub part : ℕ → ℕ
part j = crc_bits 32 0 (j % 16 * 2 ^ (4 * (j / 16)))

unfoldable pub parts : List ℕ
parts = up_to part 128
