-- `text_words::rest` meets its contract: it is what stands behind the word at 0.
-- Assumes nothing.
use mathlib.Core.Path.{◌∙◌}
use Rattle.text_words.proofs.rest.Goals as goal

pub returns : goal.returns
returns c = c.behind.ensures ∙ c.next.ensures.behind
