-- Laws of tests, and of a tally that takes one point more.
-- Assumes nothing.
use mathlib.Core.Path.{◌≡◌, refl, ap}
use mathlib.Core.Bool.{Bool, true, false, cond}
use lib.Dec.{eqb}
use Rattle.report_update.specs.declared.Tally.{Tally}
use Rattle.report_update.specs.Update.{as_read}

-- a definition's test, decided
pub yes : {A : Type 0} {t : Bool} (x y : A) → t ≡ true → cond t x y ≡ x
yes x y e = ap (λ (t : Bool). cond t x y) e

pub no : {A : Type 0} {t : Bool} (x y : A) → t ≡ false → cond t x y ≡ y
no x y e = ap (λ (t : Bool). cond t x y) e

pub by-test : {A : Type 0} (P : A → Type 0) (t : Bool) {x y : A} → (t ≡ true → P x) → (t ≡ false → P y) → P (cond t x y)
by-test P true f g = f refl
by-test P false f g = g refl

pub read-refused : (t : Tally) → (as_read t).refused ≡ t.refused
unfolding as_read
read-refused t = by-test (λ (u : Tally). u.refused ≡ t.refused) (eqb t.answered 0) (λ e. refl) (λ e. refl)
