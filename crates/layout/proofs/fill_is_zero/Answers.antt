-- `layout::fill_is_zero` meets its contract.
-- Assumes nothing.
use mathlib.Core.Path.{◌≡◌, ap, ◌∙◌}
use native.Mathlib.Omega.{arith}
use Prim.Native.Nat.{ℕ, ◌+◌, ◌-◌, ◌*◌, ◌%◌}
use lib.Dec.{eqb}
use lib.ListN.{length}
use Rattle.field.specs.Field.{field}
use Rattle.field.proofs.Place.{field-inside}
use Rattle.layout.specs.Layout.{zero_from}
use Rattle.layout.proofs.fill_is_zero.Goals as goal

pub returns : goal.returns
unfolding zero_from
returns c = let a = c.args in
    let w : ℕ = 7 - (a.p + 7) % 8 in
    let e : w ≡ 8 * length a.s.now - a.p = omega arith in
    rw (c.field_at.ensures ∙ field-inside a.s.now a.p w (omega arith) (omega arith) (omega arith)) (ap (λ (n : ℕ). eqb (field a.s.now a.p n) 0) e)
