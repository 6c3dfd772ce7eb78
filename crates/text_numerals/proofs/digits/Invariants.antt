-- The digits that are left stand before those stored.
use Rattle.std.proofs.Common.{◌≡◌, ◌+◌, ◌-◌, ◌++◌, drop}
use Rattle.text_numerals.specs.Inner.{digits_of, decimal}
use Rattle.text_numerals.proofs.digits.Given as goal

abbrev pub invariant-loop-done : goal.invariant-loop-done
invariant-loop-done l = decimal l.n ≡ digits_of (20 - l.done) l.rest ++ drop (20 - l.done + 1) l.text
