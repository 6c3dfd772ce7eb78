-- `layout::takes_read` meets its contract.
-- Assumes nothing.
use mathlib.Core.Path.{sym}
use Rattle.field.proofs.Place.{field_at-lt}
use Rattle.field.specs.Inner.{field_at}
use Rattle.layout.specs.Layout.{width}
use Rattle.layout.proofs.Says.{plain-takes}
use Rattle.layout.proofs.takes_read.Goals as goal

pub returns-then-e-eq0 : goal.returns-then-e-eq0
returns-then-e-eq0 c = let a = c.args in
    sym (plain-takes a.e (field_at a.s.now a.p (width a.e)) (field_at-lt a.s.now a.p (width a.e)) c.if-e-eq0.true)
