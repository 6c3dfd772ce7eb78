-- `frame_crc::word_left` meets its contract: the parts of four bits, added without carries.
-- Assumes nothing.
use native.Mathlib.Omega.{arith}
use mathlib.Core.Path.{ap, ◌∙◌}
use Rattle.frame_crc.proofs.Parts.{summed, word}
use Rattle.frame_crc.proofs.word_left.Goals as goal

pub returns : goal.returns
returns c = ap (summed c.args.w) c.requires ∙ word c.args.w (omega arith)
