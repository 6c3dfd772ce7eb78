-- The digits of the first k bytes are stored.
use Rattle.std.proofs.Common.{◌≡◌, ◌*◌}
use Rattle.std.proofs.Math.Seq.{paste}
use Rattle.text_numerals.specs.Inner.{pairs_of}
use Rattle.text_numerals.proofs.spell.Given as goal

abbrev pub invariant-loop-k : goal.invariant-loop-k
invariant-loop-k l = l.out ≡ paste l.initial.out l.at (pairs_of l.s) (2 * l.k)
