-- `frame_writer::copy` meets its contract: the bytes passed are those of the other.
-- Assumes nothing.
use native.Mathlib.Omega.{arith}
use mathlib.Core.Path.{refl, sym, ◌∙◌}
use lib.ListN.{length, get_or, length-set}
use Rattle.arith.proofs.Lists.{is-up_to, fill-turn, fill_done}
use Rattle.frame_writer.proofs.copy.Goals as goal

pub loop-i-init : goal.loop-i-init
loop-i-init c = (c.requires, refl)

pub loop-i-preserved : goal.loop-i-preserved
loop-i-preserved c = let m = c.args.m.now in
    let v = c.loop-i.invariant in
    (simp length-set v.0, fill-turn (λ k. get_or m k 0) c.args.out.now _ _ _ 0 v.1 refl (omega arith))

pub returns : goal.returns
returns c = let m = c.args.m.now in
    let l = c.loop-i in
    fill_done (λ k. get_or m k 0) c.args.out.now l.out l.i (length m) l.invariant.1 (omega arith) (omega arith)
    ∙ sym (is-up_to (λ k. get_or m k 0) (length m) 0 m refl (λ i h. refl))
