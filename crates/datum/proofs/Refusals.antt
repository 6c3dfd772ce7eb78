-- The number of a message and a position: what the reader answers, then the tests of the step, behind which the formula refuses nothing,
-- as the parameters of an accepted 1021 are within the widths of their fields.
-- Assumes nothing.
use mathlib.Core.Path.{◌≡◌, refl, ap, ◌∙◌}
use mathlib.Core.Bool.{Bool, true, false, not, cond}
use mathlib.Core.List.{List}
use Prim.Native.Nat.{ℕ, ◌-◌, ◌^◌}
use borrow.Author.Tests.{le-ltb, ne_eqb}
use lib.IntN.{ℤ, pos, nat_abs}
use Rattle.arith.specs.First.{first}
use Rattle.arith.specs.Whole.{same_z}
use Rattle.record_transformations.specs.declared.Parameters.{Parameters}
use Rattle.message_records.specs.Kinds.{read_helmert}
use Rattle.message_records.proofs.HelmertLaws.{Within, helmert-within}
use Rattle.datum_formula.specs.Formula.{beyond_any, formula_tests}
use Rattle.datum_formula.proofs.Refusals.{all-within}
use Rattle.datum.specs.Step.{absent, values_in, step_tests, step_refusal}
use Rattle.datum.specs.Private.{step_by}

none-refused : (p : Parameters) (x y z : ℤ) → Within p → beyond_any (10 ^ 11) x y z ≡ false → first (formula_tests (values_in p) x y z) ≡ 0
none-refused p x y z w h =
    let v = values_in p in
    rw (
      h,
      all-within (2 ^ 22 - 1) v.dx v.dy v.dz w.dx w.dy w.dz,
      all-within (2 ^ 31 - 1) v.rx v.ry v.rz w.rx w.ry w.rz,
      le-ltb (2 ^ 24 - 1) (nat_abs v.ds) w.ds,
    )

tests-of : (computation : ℤ) (p : Parameters) (x y z : ℤ) → Within p → step_by computation p x y z ≡ first (step_tests computation p x y z)
tests-of computation p x y z w = by (beyond_any (10 ^ 11) x y z) refl
  where
    behind : ℕ → ℕ
    behind n = cond (not (same_z computation (pos 0))) 11 (cond (absent p) 15 n)

    by : (b : Bool) → beyond_any (10 ^ 11) x y z ≡ b → cond b 9 (behind (first (formula_tests (values_in p) x y z))) ≡ cond b 9 (behind 0)
    by true e = refl
    by false e = ap behind (none-refused p x y z w e)

module _ (s : List ℕ) (x y z : ℤ) where
  pub reading-stops : {r : ℕ} → r ≡ (read_helmert s).refusal → (r ≡ 0 → ⊥) → r ≡ step_refusal s x y z
  unfolding step_refusal
  reading-stops {r} e h = rw (← e, ne_eqb r 0 h)

  pub reading-passed : (read_helmert s).refusal ≡ 0 → step_by (read_helmert s).value.system.computation (read_helmert s).value.parameters x y z ≡ step_refusal s x y z
  unfolding step_refusal
  reading-passed e =
      let h = (read_helmert s).value in
      rw (e, tests-of h.system.computation h.parameters x y z (helmert-within s e))
