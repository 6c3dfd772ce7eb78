-- `sample_writer::put_sample` meets its contract.
-- Assumes nothing.
use mathlib.Core.Path.{◌≡◌, ap, ◌∙◌}
use Rattle.arith.proofs.Back.{held}
use Rattle.grid_counts.specs.declared.Counted.{Counted}
use Rattle.grid_component.specs.Component.{counted}
use Rattle.grid_component.specs.Inner.{counted_by}
use Rattle.grid_component.proofs.Counts.{counted_is}
use Rattle.grid_shifts.specs.Shift.{message_shift}
use Rattle.sample_files.specs.File.{point_field}
use Rattle.sample_writer.specs.Write.{sample}
use Rattle.sample_writer.specs.Refusals.{answer_at}
use native.Mathlib.Omega.{arith}
use Rattle.sample_writer.proofs.put_sample.Goals as goal

pub returns : goal.returns
unfolding sample answer_at
returns c = let answer : c.count_at-answer.result ≡ counted (message_shift c.args.message.now c.args.component c.args.north c.args.east) = c.count_at-answer.ensures
    ∙ (λ j. counted_by c.args.message.now (c.requires.0 j) c.args.component (held c.args.north c.ranges.north.sfits j) (held c.args.east c.ranges.east.sfits j))
    ∙ counted_is c.args.message.now c.args.component c.args.north c.args.east in
    c.put_point.ensures
    ∙ λ i. point_field
    (record {
      component = c.args.component;
      north = held c.args.north c.ranges.north.sfits i;
      east = held c.args.east c.ranges.east.sfits i;
      claim = (held c.count_at-answer.result.count (omega arith) ∙ ap (λ (r : Counted). r.count) answer) i;
    })
