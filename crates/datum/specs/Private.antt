-- What the private functions answer.
-- Assumes nothing.
use Rattle.std.specs.Prelude.{ℕ, ◌^◌, not, cond, ℤ, pos}
use Rattle.arith.specs.First.{first}
use Rattle.arith.specs.Whole.{same_z}
use Rattle.record_transformations.specs.declared.Parameters.{Parameters}
use Rattle.datum_formula.specs.Formula.{beyond_any, formula_tests}
use Rattle.datum.specs.Step.{absent, values_in}

-- the tests of a step, and behind them those of the formula
abbrev pub step_by : (computation : ℤ) → Parameters → (x y z : ℤ) → ℕ
step_by computation p x y z =
    cond (beyond_any (10 ^ 11) x y z) 9 (cond (not (same_z computation (pos 0))) 11 (cond (absent p) 15 (first (formula_tests (values_in p) x y z))))
