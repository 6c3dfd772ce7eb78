-- The bytes of the first k pairs are stored.
use Rattle.std.proofs.Common.{◌≡◌, ◌++◌, take, drop}
use Rattle.text_numerals.specs.Inner.{bytes_of}
use Rattle.text_numerals.proofs.fill.Given as goal

abbrev pub invariant-loop-k : goal.invariant-loop-k
invariant-loop-k l = l.bytes ≡ take l.k (bytes_of l.s) ++ drop l.k l.initial.bytes
