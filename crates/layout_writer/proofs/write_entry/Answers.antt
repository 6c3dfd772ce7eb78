-- `layout_writer::write_entry` meets its contract.
-- Assumes nothing.
use mathlib.Core.Path.{sym, ap, ◌∙◌}
use native.Mathlib.Omega.{arith}
use borrow.Author.Tests.{eq-eqb, ne_eqb}
use lib.IntN.{nat_abs}
use Rattle.field.specs.Inner.{put_field, put_signed}
use Rattle.field.proofs.Place.{stands}
use Rattle.field.proofs.Sign.{bits-z}
use Rattle.field_writer.proofs.Place.{put-inside, put-fitting}
use Rattle.layout.specs.Layout.{width, reading_in, place_takes}
use Rattle.layout.proofs.Says.{from-T, place-taken, reading-pattern}
use Rattle.layout_writer.proofs.Entry.{taken-fits, unsigned-place}
use Rattle.layout_writer.proofs.write_entry.Goals as goal

pub returns-then-e-eq1 : goal.returns-then-e-eq1
returns-then-e-eq1 c = let a = c.args in
    let r = reading_in a.z a.b in
    let t = place-taken a.e a.z a.b (from-T (place_takes a.e a.z a.b) c.requires.1.1) in
    let back = rw (bits-z a.z c.ranges.z) at c.reading_in.ensures in
    c.put_signed.ensures
    ∙ ap (put_signed a.s.now a.p (width a.e)) back
    ∙ put-fitting a.s.now a.p (width a.e) (stands a.s.now a.p (width a.e) (omega arith) (omega arith) (omega arith)) r
    (taken-fits a.e r (eq-eqb _ _ c.if-e-eq1.true) t) (reading-pattern a.e r t).0

pub returns : goal.returns
returns c = let a = c.args in
    let r = reading_in a.z a.b in
    let t = place-taken a.e a.z a.b (from-T (place_takes a.e a.z a.b) c.requires.1.1) in
    let u = unsigned-place a.e a.z a.b (ne_eqb _ _ c.if-e-eq1.false) t in
    let back = c.unsigned_abs.ensures.value ∙ ap nat_abs (bits-z a.z c.ranges.z) ∙ sym u in
    c.put_field.ensures
    ∙ ap (put_field a.s.now a.p (width a.e)) back
    ∙ put-inside a.s.now a.p (width a.e) (stands a.s.now a.p (width a.e) (omega arith) (omega arith) (omega arith)) _ (reading-pattern a.e r t).0
