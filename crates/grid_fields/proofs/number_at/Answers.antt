-- `grid_fields::number_at` meets its contract.
-- Assumes nothing.
use native.Mathlib.Omega.{arith}
use Prim.Native.Nat.{◌<◌, ◌^◌}
use mir.Syntax.{w64}
use mir.ValLaws.{to_z_pos}
use Rattle.field.specs.Inner.{field_at}
use Rattle.field.proofs.Place.{wide, field_at-lt}
use Rattle.field.proofs.Sign.{half-word}
use Rattle.grid_fields.proofs.number_at.Goals as goal

pub returns-then-w-gt63 : goal.returns-then-w-gt63
unfolding field_at
returns-then-w-gt63 c = let a = c.args in rw (wide a.s.now a.p a.w c.if-w-gt63.true)

pub overflow_cast-result : goal.overflow_cast-result
overflow_cast-result c = let a = c.args in
    record { sfits = omega (arith, c.field_at.ensures, field_at-lt a.s.now a.p a.w, half-word a.w (omega arith)) }

pub returns : goal.returns
returns c = let a = c.args in
    let low : c.field_at.result < 2 ^ 63 = omega (arith, c.field_at.ensures, field_at-lt a.s.now a.p a.w, half-word a.w (omega arith)) in
    rw (to_z_pos w64 c.field_at.result low, c.field_at.ensures)
