-- `text_words::place` meets its contract. The invariant: the place is that many words on; the measure is the number of bytes that are left.
-- Assumes nothing.
use Prim.Native.Nat.{◌+◌, ◌-◌, ◌≤◌}
use mathlib.Core.Path.{◌≡◌}
use lib.ListN.{length, drop}
use Rattle.text_words.specs.Inner.{words, place_in}
use Rattle.text_words.proofs.place.Given as goal

abbrev pub invariant-loop-from : goal.invariant-loop-from
invariant-loop-from l = (l.k ≤ l.from) × (place_in l.s (words l.line) ≡ l.k + place_in l.s (words (drop l.from l.line)))

abbrev pub decreases-loop-from : goal.decreases-loop-from
decreases-loop-from l = length l.line - l.from
