-- `frame_crc::crc_end` meets its contract: what is left of the bytes takes the remainder so far to the last.
-- Assumes nothing.
use Prim.Native.Nat.{◌<◌, ◌^◌}
use mathlib.Core.Path.{◌≡◌}
use lib.ListN.{drop}
use Rattle.frame_crc.specs.Crc.{crc_from}
use Rattle.frame_crc.proofs.crc_end.Given as goal

abbrev pub invariant-loop-x : goal.invariant-loop-x
invariant-loop-x l = (l.c < 2 ^ 24) × (crc_from l.c (drop l.x-index l.s) ≡ crc_from l.start l.s)
