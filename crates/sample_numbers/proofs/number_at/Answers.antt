-- `sample_numbers::number_at` meets its contract.
-- Assumes nothing.
use mathlib.Core.Path.{sym, ◌∙◌}
use Rattle.sample_numbers.proofs.Word.{read-part}
use Rattle.sample_numbers.proofs.number_at.Goals as goal

pub returns : goal.returns
returns c = let a = c.args in
    read-part a.s.now a.a a.k _ c.if-k-gt8.false (sym c.within.ensures ∙ c.if-not-within.false) c.read_number.ensures
