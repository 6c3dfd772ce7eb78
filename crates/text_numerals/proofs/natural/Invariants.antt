-- What is left of the digits spells the whole behind n.
use Rattle.std.proofs.Common.{◌≡◌, ◌<◌, ◌^◌, drop}
use Rattle.text_numerals.specs.Inner.{digits_only, spelled}
use Rattle.text_numerals.proofs.natural.Given as goal

abbrev pub invariant-loop-b : goal.invariant-loop-b
invariant-loop-b l = record {
  in_range : l.n < 2 ^ 64;
  number : spelled 0 l.s ≡ spelled l.n (drop l.b-index l.s);
  digits : digits_only l.s ≡ digits_only (drop l.b-index l.s);
}
