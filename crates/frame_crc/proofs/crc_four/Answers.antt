-- `frame_crc::crc_four` meets its contract: the remainder so far and the four bytes go in together.
-- Assumes nothing.
use mathlib.Core.Path.{sym, ap, ◌∙◌}
use Rattle.frame_crc.specs.Crc.{crc_bits}
use Rattle.frame_crc.proofs.Parts.{word-input, four}
use Rattle.frame_crc.proofs.crc_four.Goals as goal

pub returns : goal.returns
returns c = let a = c.args in
    c.word_left.ensures ∙ sym (word-input a.c _ c.requires.1)
    ∙ ap (crc_bits 32 a.c) c.from_be_bytes.ensures ∙ four a.c a.word.now c.told-word c.fits-word
