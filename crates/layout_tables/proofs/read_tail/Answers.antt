-- `layout_tables::read_tail` meets its contract.
-- Assumes nothing.
use mathlib.Core.Path.{refl, ap, ◌∙◌}
use native.Mathlib.Omega.{arith}
use borrow.Rule.Slice.PartMut.{put_mid}
use Rattle.layout.specs.Layout.{total}
use Rattle.layout_tables.specs.Private.{behind}
use Rattle.layout_tables.proofs.Parts.{part-loaded}
use Rattle.layout_tables.proofs.read_tail.Goals as goal

pub returns : goal.returns
unfolding behind total
returns c = let a = c.args in
    let t = part-loaded behind 59 5 a.p a.s.now a.values.now a.present.now refl (omega arith) (omega arith) (omega arith) (omega arith) (omega arith) in record { values = ap (put_mid 59 5 a.values.now) c.read.ensures.values ∙ t.0; present = ap (put_mid 59 5 a.present.now) c.read.ensures.present ∙ t.1 }
