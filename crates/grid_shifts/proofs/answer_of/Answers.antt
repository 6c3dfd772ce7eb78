-- `grid_shifts::answer_of` meets its contract: the casts lose nothing, and the constants are the integers.
-- Assumes nothing.
use mathlib.Core.Path.{◌≡◌, sym, ap, ◌∙◌, subst}
use Prim.Native.Nat.{ℕ, ◌≤◌}
use lib.Dec.{T}
use lib.IntN.{ℤ, pos, nat_abs}
use lib.Ieee.{Float, binary64, in_float, of_int, div}
use mir.Syntax.{w64}
use mir.Val.{SFits, to_z, of_z}
use Rattle.arith.proofs.Machine.{is-back}
use Rattle.std.proofs.Common.{arith, tests}
use Rattle.arith.proofs.Order.{same-yes, same-no, fits-literal}
use Rattle.grid_shifts.specs.Shift.{answer_of, units_of}
use Rattle.grid_shifts.specs.declared.Answer.TheVariants.{Seconds, Metres}
use Rattle.grid_shifts.proofs.Floats.{in-float, per-second, per-metre}
use Rattle.grid_shifts.proofs.answer_of.Goals as goal

-- a count that is cast
casts : {z : ℤ} → SFits w64 z → nat_abs z ≤ 9007199254740992 → T (in_float binary64 (to_z w64 (of_z w64 z)))
casts {z} f h = subst (λ (y : ℤ). T (in_float binary64 y)) (sym (is-back f)) (in-float z h)

-- and divided
parts : {z : ℤ} (n : ℕ) {d : Float} → SFits w64 z → d ≡ of_int binary64 (pos n) → div binary64 (of_int binary64 (to_z w64 (of_z w64 z))) d ≡ units_of n z
parts n f e i = div binary64 (of_int binary64 (is-back f i)) (e i)

pub returns-then-component-lt2 : goal.returns-then-component-lt2
unfolding answer_of
returns-then-component-lt2 c = ap Seconds (parts 100000 c.ranges.count per-second) ∙ grind (arith, tests, same-yes, same-no, fits-literal)

pub returns : goal.returns
unfolding answer_of
returns c = ap Metres (parts 10000 c.ranges.count (grind (arith, per-metre))) ∙ grind (arith, tests, same-yes, same-no, fits-literal)

pub int_to_float-result : goal.int_to_float-result
int_to_float-result c = casts c.ranges.count c.requires

pub int_to_float-result-2 : goal.int_to_float-result-2
int_to_float-result-2 c = casts c.ranges.count c.requires
