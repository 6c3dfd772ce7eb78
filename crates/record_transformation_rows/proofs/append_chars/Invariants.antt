-- `record_transformation_rows::append_chars` meets its contract: a loop that stores one character a round.
-- Assumes nothing.
use Rattle.std.proofs.Common.{◌≡◌}
use lib.Seq.{paste}
use Rattle.arith.specs.Lists.{up_to}
use Rattle.record_transformation_rows.specs.Private.{char_value}
use Rattle.record_transformation_rows.proofs.append_chars.Given as goal

abbrev pub invariant-loop-j : goal.invariant-loop-j
invariant-loop-j l = l.dst ≡ paste l.initial.dst l.at (up_to (char_value l.chars) l.count) l.j
