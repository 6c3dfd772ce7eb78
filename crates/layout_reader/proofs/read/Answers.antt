-- `layout_reader::read` meets its contract: each return is a case of the definition.
-- Assumes nothing.
use mathlib.Core.Path.{◌≡◌, sym, ◌∙◌}
use mathlib.Core.List.{List}
use Prim.Native.Nat.{ℕ, ◌*◌, ◌≤◌}
use native.Mathlib.Omega.{arith}
use lib.ListN.{length}
use borrow.Author.Tests.{le-ltb}
use Rattle.layout.specs.Layout.{total}
use Rattle.layout.specs.Inner.{bits_of}
use Rattle.layout.proofs.Loop.{total-most}
use Rattle.layout_reader.proofs.Answer.{left, too_many, loaded, stands}
use Rattle.layout_reader.proofs.read.Goals as goal

bits : (es : List ℕ) → length es ≤ 96 → bits_of es ≡ total es
unfolding bits_of
bits es h = rw (le-ltb 96 (length es) h)

pub returns-then-layout-gt96 : goal.returns-then-layout-gt96
returns-then-layout-gt96 c = let a = c.args in let p = too_many a.layout.now a.p a.s.now a.values.now a.present.now c.if-layout-gt96.true in record { values = p.0; present = p.1 }

pub fits-requires : goal.fits-requires
fits-requires c = let es = c.args.layout.now in
    (omega arith, omega (arith, c.bits_of.ensures, bits es (omega arith), total-most es))

pub returns-then-not-fits : goal.returns-then-not-fits
returns-then-not-fits c = let a = c.args in
    let n = c.bits_of.ensures ∙ bits a.layout.now (omega arith) in let p = left a.layout.now a.p a.s.now a.values.now a.present.now (rw n at (sym c.fits.ensures ∙ c.if-not-fits.true)) in record { values = p.0; present = p.1 }

pub read_all-requires : goal.read_all-requires
read_all-requires c = let a = c.args in
    let n = c.bits_of.ensures ∙ bits a.layout.now (omega arith) in
    let k = stands (length a.layout.now) a.p c.bits_of.result (8 * length a.s.now) (length a.values.now) (length a.present.now) (sym c.fits.ensures ∙ c.if-not-fits.false) in
    (omega (arith, k.within, n), (omega (arith, k.near), (omega arith, (k.values, k.present))))

pub returns : goal.returns
returns c = let a = c.args in
    let n = c.bits_of.ensures ∙ bits a.layout.now (omega arith) in
    let t = loaded a.layout.now a.p a.s.now a.values.now a.present.now (rw n at (sym c.fits.ensures ∙ c.if-not-fits.false)) in record { values = c.read_all.ensures.values ∙ t.0; present = c.read_all.ensures.present ∙ t.1 }
