-- `field_writer::write_bits` meets its contract.
-- Assumes nothing.
use Prim.Native.Nat.{ℕ, ◌/◌, ◌^◌, ◌%◌, ◌*◌}
use mathlib.Core.Path.{◌≡◌, refl, ap, ◌∙◌}
use native.Mathlib.Nat.{sub_self, div-one}
use native.Mathlib.Omega.{arith}
use lib.ListN.{length-set}
use Rattle.std.proofs.lemmas.Nat.{one_shl}
use Rattle.field.specs.Field.{set_field}
use Rattle.field_writer.proofs.Put.{set_field-step}
use Rattle.field_writer.proofs.write_bits.Goals as goal

pub loop-k-init : goal.loop-k-init
loop-k-init c = (omega arith, (refl, unfold set_field in refl))

pub loop-k-preserved : goal.loop-k-preserved
loop-k-preserved c = let a = c.args in
    let l = c.loop-k in
    let m : ℕ = c.min-m.result in
    let n : 1 * 2 ^ m % 2 ^ 64 ≡ 2 ^ m = one_shl m 64 (omega arith) in (
      omega arith,
      (
        simp length-set l.invariant.1.0,
        rw (c.put_bits.ensures, n)
            (set_field-step a.s.now l.s a.p a.w a.v l.k m l.invariant.1.1 (omega arith) (omega arith) (omega arith) (omega arith)),
      ),
    )

pub shape_of-s : goal.shape_of-s
shape_of-s c = c.loop-k.invariant.1.0

pub returns : goal.returns
returns c = let a = c.args in
    let l = c.loop-k in
    let e : l.k ≡ a.w = omega arith in
    l.invariant.1.1 ∙ rw e (ap (λ (x : ℕ). set_field a.s.now a.p a.w (a.v / 2 ^ x)) (sub_self a.w) ∙ ap (λ (x : ℕ). set_field a.s.now a.p a.w x) (div-one a.v))
