-- The points refused of a tally, by the numbers passed.
-- Assumes nothing.
use mathlib.Core.Path.{◌≡◌, refl, ap, ◌∙◌}
use mathlib.Core.List.{List, [], ◌∷◌}
use Prim.Native.Nat.{ℕ, zero, suc, ◌+◌, ◌≤◌}
use native.Mathlib.Omega.{arith}
use native.Mathlib.Numerals.{add-one}
use lib.ListN.{get_or, take}
use Rattle.report_update.specs.Numbers.{total}

total-suc : (l : List ℕ) (i : ℕ) → total (take (suc i) l) ≡ total (take i l) + get_or l i 0
total-suc [] zero = refl
total-suc [] (suc i) = refl
total-suc (k ∷ l) zero = omega arith
total-suc (k ∷ l) (suc i) = omega (arith, total-suc l i)

pub total-one : (l : List ℕ) (i : ℕ) → total (take (i + 1) l) ≡ total (take i l) + get_or l i 0
total-one l i = ap (λ (k : ℕ). total (take k l)) (add-one i) ∙ total-suc l i

pub total-part : (l : List ℕ) (i : ℕ) → total (take i l) + get_or l i 0 ≤ total l
total-part [] zero = omega arith
total-part [] (suc i) = omega arith
total-part (k ∷ l) zero = omega arith
total-part (k ∷ l) (suc i) = omega (arith, total-part l i)
