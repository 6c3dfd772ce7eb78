-- `layout_writer::write_message` meets its contract.
-- Assumes nothing.
use mathlib.Core.Path.{◌≡◌, ap, ◌∙◌}
use native.Mathlib.Omega.{arith}
use lib.ListN.{drop, replicate}
use lib.Seq.{length-take-le}
use Rattle.layout.specs.Layout.{blank, row_of}
use Rattle.layout_writer.proofs.Answer.{message-left}
use Rattle.layout_writer.proofs.write_message.Goals as goal

pub returns : goal.returns
returns c = let a = c.args in
    let zeros : c.fill.new.self ≡ blank a.n = c.fill.ensures.after (λ n e. e) ∙ ap (λ k. replicate k 0) (length-take-le a.n a.out.now (omega arith)) in
    c.write_all.ensures
    ∙ rw zeros (message-left a.layout.now (row_of a.values.now a.present.now) a.n (drop a.n a.out.now) c.requires.0)
