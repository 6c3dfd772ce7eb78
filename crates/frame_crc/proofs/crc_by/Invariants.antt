-- `frame_crc::crc_by` meets its contract: what is left of the bytes takes the remainder so far to the last.
-- Assumes nothing.
use Prim.Native.Nat.{◌*◌, ◌<◌, ◌^◌}
use mathlib.Core.Path.{◌≡◌}
use lib.ListN.{drop}
use Rattle.frame_crc.specs.Crc.{crc_from}
use Rattle.frame_crc.proofs.crc_by.Given as goal

abbrev pub invariant-loop-word : goal.invariant-loop-word
invariant-loop-word l = (l.c < 2 ^ 24) × (crc_from l.c (drop (l.word-index * 4) l.s) ≡ crc_from l.start l.s)
