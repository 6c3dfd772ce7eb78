-- `layout_tables::read_grid` meets its contract.
-- Assumes nothing.
use mathlib.Core.Path.{sym, ◌∙◌}
use native.Mathlib.Omega.{arith}
use Rattle.layout.specs.Layout.{value_in, present_in}
use Rattle.layout_reader.proofs.Answer.{loads}
use Rattle.layout_tables.proofs.Parts.{grid-read}
use Rattle.layout_tables.proofs.read_grid.Goals as goal

pub returns : goal.returns
returns c = let a = c.args in
    let Q = c.requires in
    let h = a.head.now in
    let t = loads h 0 a.s.now a.values.now a.present.now (omega arith) (omega arith) (omega arith) (omega arith) (omega arith) in
    let u = rw Q.0.0 at t in record { values = grid-read value_in a.s.now a.values.now h a.p _ _ _ Q.0.0 Q.0.1.0 (c.read.ensures.values ∙ sym u.0) c.read_points.ensures.values c.read_tail.ensures.values; present = grid-read present_in a.s.now a.present.now h a.p _ _ _ Q.0.0 Q.0.1.0 (c.read.ensures.present ∙ sym u.1) c.read_points.ensures.present c.read_tail.ensures.present }
