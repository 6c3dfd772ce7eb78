-- `frame::find_frame` meets its contract: the answer from a place passed is the answer from the next.
-- Assumes nothing.
use mathlib.Core.Path.{◌≡◌}
use Rattle.frame.specs.Frames.{find_frame}
use Rattle.frame.proofs.find_frame.Given as goal

abbrev pub invariant-loop-i : goal.invariant-loop-i
invariant-loop-i l = find_frame l.bytes l.i ≡ find_frame l.bytes l.from
