-- `record_transformations::point_at` meets its contract: each place read is the one that the definition names.
-- Assumes nothing.
use Rattle.std.proofs.Common.{ℤ, Option}
use Prim.Native.Nat.{ℕ, ◌+◌}
use mathlib.Core.Path.{◌≡◌}
use Rattle.record_transformations.specs.declared.RotationPoint.{RotationPoint}
use Rattle.record_transformations.specs.Transformations.{point_at}
use borrow.Author.Rules.{rules}
use Rattle.record_transformations.proofs.point_at.Goals as goal

point-made : (v : ℕ → Option ℤ) (k : ℕ) {x y z : Option ℤ} → x ≡ v k → y ≡ v (k + 1) → z ≡ v (k + 2) → ◌≡◌ {A = RotationPoint} (record { x = x; y = y; z = z }) (point_at v k)
unfolding point_at
point-made v k p q r = λ i. record { x = p i; y = q i; z = r i }

pub returns : goal.returns
returns c = point-made _ _ (search rules) (search rules) (search rules)
