-- `frame_crc::crc_by` meets its contract: what is left of the bytes takes the remainder so far to the last.
-- Assumes nothing.
use mathlib.Core.Path.{◌≡◌, refl, ◌∙◌}
use Prim.Native.Nat.{◌/◌}
use native.Mathlib.Omega.{arith}
use lib.ListN.{length}
use Rattle.frame_crc.proofs.Linear.{from-lt, round-chunk}
use Rattle.frame_crc.proofs.crc_by.Goals as goal

pub loop-word-init : goal.loop-word-init
loop-word-init c = (c.requires.1, refl)

pub loop-word-preserved : goal.loop-word-preserved
loop-word-preserved c = let l = c.loop-word in
    let h = c.as_chunks.ensures in
    let e = rw h.front at c.crc_four-c.ensures in
    (rw e (from-lt l.c _ l.invariant.0), rw e (round-chunk l.c 4 _ l.word-index c.args.s.now (omega arith) ∙ l.invariant.1))

pub returns : goal.returns
returns c = let h = c.as_chunks.ensures in
    let k : length c.args.s.now / 4 ≡ c.loop-word.word-index = omega arith in
    rw (h.back, k) at c.crc_end.ensures ∙ c.loop-word.invariant.1
