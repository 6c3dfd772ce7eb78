-- `frame_crc::crc_of_both` meets its contract: what the first bytes leave goes on with the others, and antt computes all 128 numbers of the table.
-- Assumes nothing.
use native.Mathlib.Omega.{arith}
use mathlib.Core.Path.{refl, sym, ap, ◌∙◌}
use Rattle.frame_crc.specs.Crc.{reduced, crc_bit, crc_bits, crc_from, crc}
use Rattle.frame_crc.specs.Private.{part, parts}
use Rattle.frame_crc.proofs.Linear.{from-lt, from-append}
use Rattle.frame_crc.proofs.crc_of_both.Goals as goal

pub crc_by-c-requires : goal.crc_by-c-requires
unfolding reduced crc_bit crc_bits part parts
crc_by-c-requires c = (refl, omega arith)

pub crc_by-requires : goal.crc_by-requires
unfolding reduced crc_bit crc_bits part parts
crc_by-requires c = (refl, rw c.crc_by-c.ensures (from-lt 0 _ (omega arith)))

pub returns : goal.returns
unfolding crc
returns c = c.crc_by.ensures ∙ ap (λ n. crc_from n c.args.b.now) c.crc_by-c.ensures ∙ sym (from-append 0 c.args.a.now c.args.b.now)
