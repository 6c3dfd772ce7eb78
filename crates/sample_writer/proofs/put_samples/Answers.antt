-- `sample_writer::put_samples` meets its contract: the fields of the points passed are stored.
-- Assumes nothing.
use mathlib.Core.Path.{◌≡◌, refl, sym, ◌∙◌}
use native.Mathlib.Omega.{arith}
use borrow.Author.Rules.{rules}
use lib.IntN.{pos}
use lib.ListN.{get_or}
use Rattle.arith.proofs.Back.{held}
use Rattle.sample_files.specs.File.{point_field}
use Rattle.sample_writer.specs.Write.{sample}
use Rattle.sample_writer.proofs.Asked.{point}
use Rattle.sample_writer.proofs.Points.{size-put, round-fields, end-fields}
use Rattle.sample_writer.proofs.put_samples.Goals as goal

pub loop-i-init : goal.loop-i-init
loop-i-init c = (omega arith, (omega arith, (omega arith, (omega arith, (omega arith, refl)))))

pub put_sample-requires : goal.put_sample-requires
put_sample-requires c = (c.requires.0, search rules)

pub loop-i-preserved : goal.loop-i-preserved
loop-i-preserved c = let put : c.put_sample.new.out ≡ point_field (sample c.args.message.now (point c.args.components.now c.args.north.now c.args.east.now c.loop-i.i)) = c.put_sample.ensures
    ∙ λ j. point_field
    (sample c.args.message.now
    (record {
      component = get_or c.args.components.now c.loop-i.i 0;
      north = held (get_or c.args.north.now c.loop-i.i (pos 0)) (omega arith) j;
      east = held (get_or c.args.east.now c.loop-i.i (pos 0)) (omega arith) j;
    })) in
    let v = c.loop-i.invariant.1 in (
      omega arith,
      (
        v.0,
        (
          v.1.0,
          (
            size-put c.loop-i.out c.put_sample.new.out c.loop-i.i c.put_sample.auto.out ∙ v.1.1.0,
            (
              v.1.1.1.0,
              round-fields _ _ _ _ c.loop-i-test.true v.0 v.1.0 _ c.loop-i.out c.put_sample.new.out put (omega arith) ∙ v.1.1.1.1,
            ),
          ),
        ),
      ),
    )

pub shape_of-out : goal.shape_of-out
shape_of-out c = let v = c.loop-i.invariant.1.1.1 in v.0 ∙ sym v.1.0

pub returns : goal.returns
returns c = let v = c.loop-i.invariant.1.1.1 in
    sym (end-fields _ _ _ c.loop-i.i _ c.loop-i.out c.loop-i-test.false (omega arith)) ∙ v.1.1
