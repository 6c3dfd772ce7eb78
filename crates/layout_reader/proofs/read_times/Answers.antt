-- `layout_reader::read_times` meets its contract: each return is a case of the definition.
-- Assumes nothing.
use mathlib.Core.Path.{◌≡◌, sym, ◌∙◌}
use mathlib.Core.Bool.{◌&&◌}
use mathlib.Core.List.{List}
use Prim.Native.Nat.{ℕ, ◌+◌, ◌*◌, ◌≤◌}
use native.Mathlib.Nat.{mul-le-mul}
use native.Mathlib.Omega.{arith}
use lib.Dec.{leb}
use lib.ListN.{length, replicate, length-replicate}
use Rattle.layout.specs.Layout.{width}
use Rattle.layout.proofs.Round.{total-times}
use Rattle.layout_reader.specs.Inner.{readable}
use Rattle.layout_reader.proofs.Answer.{left, too_many, loaded, stands}
use Rattle.layout_reader.proofs.read_times.Goals as goal

-- so many fields of entry e are readable where they fit
same-readable : (n e p : ℕ) (s : List ℕ) (l m : ℕ)
    → readable (replicate n e) p s l m ≡ (leb n 96 && leb (p + n * width e) 65535 && leb (p + n * width e) (8 * length s) && leb n l && leb n m)
same-readable n e p s l m = rw (length-replicate n e, total-times n e)

few_bits : (n w : ℕ) → n ≤ 96 → w ≤ 63 → n * w ≤ 6048
few_bits n w h k = mul-le-mul h k

pub returns-then-values-gt96 : goal.returns-then-values-gt96
returns-then-values-gt96 c = let a = c.args in let p = too_many (replicate (length a.values.now) a.e) a.p a.s.now a.values.now a.present.now (omega (arith, length-replicate (length a.values.now) a.e)) in record { values = p.0; present = p.1 }

pub overflow_mul-values : goal.overflow_mul-values
overflow_mul-values c = let a = c.args in omega (arith, few_bits (length a.values.now) (width a.e) (omega arith) (omega arith))

pub fits-requires : goal.fits-requires
fits-requires c = let a = c.args in (omega arith, few_bits (length a.values.now) (width a.e) (omega arith) (omega arith))

pub returns-then-not-fits : goal.returns-then-not-fits
returns-then-not-fits c = let a = c.args in let p = left (replicate (length a.values.now) a.e) a.p a.s.now a.values.now a.present.now
    (same-readable (length a.values.now) a.e a.p a.s.now (length a.values.now) (length a.present.now) ∙ sym c.fits.ensures ∙ c.if-not-fits.true) in record { values = p.0; present = p.1 }

pub read_each-requires : goal.read_each-requires
read_each-requires c = let a = c.args in
    let k = stands (length a.values.now) a.p (length a.values.now * width a.e) (8 * length a.s.now) (length a.values.now) (length a.present.now) (sym c.fits.ensures ∙ c.if-not-fits.false) in
    (k.within, (k.near, (omega arith, k.present)))

pub returns : goal.returns
returns c = let a = c.args in
    let k = length-replicate (length a.values.now) a.e in
    let t = loaded (replicate (length a.values.now) a.e) a.p a.s.now a.values.now a.present.now
    (same-readable (length a.values.now) a.e a.p a.s.now (length a.values.now) (length a.present.now) ∙ sym c.fits.ensures ∙ c.if-not-fits.false) in record { values = c.read_each.ensures.values ∙ (rw k at t).0; present = c.read_each.ensures.present ∙ (rw k at t).1 }
