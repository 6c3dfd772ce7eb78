-- `sample_numbers::put_at` meets its contract.
-- Assumes nothing.
use mathlib.Core.Path.{sym, ◌∙◌}
use borrow.Author.Tests.{leb-true}
use Rattle.sample_numbers.specs.Number.{put_bytes}
use Rattle.sample_numbers.proofs.Number.{length-bytes_of}
use Rattle.sample_numbers.proofs.Word.{put-number}
use Rattle.sample_numbers.proofs.put_at.Goals as goal

pub returns-then-within : goal.returns-then-within
returns-then-within c = let a = c.args in
    put-number a.out.now _ a.a a.k a.v (leb-true _ _ (sym c.within.ensures ∙ c.if-within.true)) c.put_number.ensures

pub returns-else-within : goal.returns-else-within
unfolding put_bytes
returns-else-within c = let a = c.args in
    rw (length-bytes_of a.k a.v, sym c.within.ensures ∙ c.if-within.false)
