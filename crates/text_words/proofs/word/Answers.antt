-- `text_words::word` meets its contract: the first word ends at the first space.
-- Assumes nothing.
use mathlib.Core.Path.{ap, ◌∙◌}
use lib.ListN.{take}
use Rattle.text_words.specs.Inner.{word}
use Rattle.text_words.proofs.word.Goals as goal

pub returns : goal.returns
unfolding word
returns c = c.before-2.ensures ∙ ap (λ n. take n c.args.s.now) c.find.ensures
