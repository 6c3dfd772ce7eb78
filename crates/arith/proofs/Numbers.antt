-- Laws of refusal numbers.
-- Assumes nothing.
use native.Mathlib.Omega.{arith}
use Rattle.std.specs.Prelude.{ℕ, Result, Ok, Err, ◌≡◌, ◌<◌, false, eqb}
use mathlib.Core.Path.{ap, sym, ◌∙◌}
use Rattle.arith.specs.declared.refusals.Refusal.{Refusal}
use Rattle.arith.specs.Refusals.{number, outcome_number}

-- no refusal has the number 0
pub number_above : (r : Refusal) → 0 < number r
number_above r = grind arith

pub number_none : (r : Refusal) → eqb (number r) 0 ≡ false
number_none r = grind arith

-- an answer that is not refused, and one that is
pub passed : {A : Type 0} {a : Result A Refusal} {x : A} → a ≡ Ok x → outcome_number a ≡ 0
passed e = ap outcome_number e

pub refused : {A : Type 0} {a : Result A Refusal} {r : Refusal} → a ≡ Err r → outcome_number a ≡ 0 → ⊥
refused {r = r} e z = let n = number_above r in let k = sym (ap outcome_number e) ∙ z in omega arith
