-- `field::load_long` meets its contract.
-- Assumes nothing.
use mathlib.Core.Path.{◌≡◌, sym, ap, ◌∙◌}
use native.Mathlib.Omega.{arith}
use lib.Pow.{pow_mono}
use Prim.Native.Nat.{ℕ, ◌+◌, ◌-◌, ◌^◌, ◌≤◌, ◌<◌}
use Rattle.field.specs.Field.{field}
use Rattle.field.proofs.Bit.{field_lt, field-add}
use Rattle.field.proofs.load_long.Goals as goal

-- the first part has at most 31 bits
first-low : (x w : ℕ) → x < 2 ^ (w - 32) → w ≤ 63 → x < 2 ^ 31
first-low x w h l = let m : 2 ^ (w - 32) ≤ 2 ^ 31 = pow_mono {i = w - 32} {j = 31} (omega arith) in omega arith

pub overflow_mul-result : goal.overflow_mul-result
overflow_mul-result c = let a = c.args in
    omega (arith, c.load_field.ensures, first-low (field a.s.now a.p (a.w - 32)) a.w (field_lt a.s.now a.p (a.w - 32)) (omega arith))

pub overflow_add-result : goal.overflow_add-result
overflow_add-result c = let a = c.args in
    omega (arith, c.load_field.ensures, c.load_field-2.ensures, first-low (field a.s.now a.p (a.w - 32)) a.w (field_lt a.s.now a.p (a.w - 32)) (omega arith), field_lt a.s.now (a.p + (a.w - 32)) 32)

pub returns : goal.returns
returns c = let a = c.args in
    let e : a.w - 32 + 32 ≡ a.w = omega arith in
    rw (c.load_field.ensures, c.load_field-2.ensures)
    (sym (field-add a.s.now a.p (a.w - 32) 32) ∙ ap (λ (k : ℕ). field a.s.now a.p k) e)
