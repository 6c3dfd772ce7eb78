-- `sample_numbers::put_number` meets its contract: the bytes passed, from the last, are those of the number.
-- Assumes nothing.
use mathlib.Core.Path.{sym, ◌∙◌}
use native.Mathlib.Omega.{arith}
use Rattle.sample_numbers.proofs.Word.{round-byte, end-bytes}
use Rattle.sample_numbers.proofs.put_number.Goals as goal

pub loop-k-preserved : goal.loop-k-preserved
loop-k-preserved c = let l = c.loop-k in
    l.invariant ∙ round-byte l.out l.left l.k (omega arith) (omega arith)

pub returns : goal.returns
returns c = let l = c.loop-k in sym (l.invariant ∙ end-bytes l.out l.left l.k (omega arith))
