-- The linearised seven-parameter transformation: formula 3.5-1 of document 000, with the steps of request A12.
-- Assumes nothing.
use Rattle.std.specs.Prelude.{ℕ, ◌-◌, ◌*◌, ◌^◌, ◌≤◌, ◌≡◌, Bool, ◌||◌, List, [], ◌∷◌, ltb, ℤ, pos, nat_abs, ◌+ℤ◌, ◌-ℤ◌, ◌*ℤ◌}
use Rattle.arith.specs.First.{Test}
use Rattle.datum_formula.specs.declared.Values.{Values}
use Rattle.datum_formula.specs.declared.Position.{Position}

-- ---- the exact target, a fraction of whole numbers over 10^35

-- "One raw rotation step is taken as 96,962,736,221,907 over 10^24 radian": a rotation, over 10^24
abbrev pub rotation : ℤ → ℤ
rotation r = pos 96962736221907 *ℤ r

-- R * X_S, over 10^24; R is [1 +RZ -RY; -RZ 1 +RX; +RY -RX 1]
unfoldable pub rotated_x : Values → (x y z : ℤ) → ℤ
rotated_x v x y z = pos (10 ^ 24) *ℤ x +ℤ rotation v.rz *ℤ y -ℤ rotation v.ry *ℤ z

unfoldable pub rotated_y : Values → (x y z : ℤ) → ℤ
rotated_y v x y z = pos (10 ^ 24) *ℤ y -ℤ rotation v.rz *ℤ x +ℤ rotation v.rx *ℤ z

unfoldable pub rotated_z : Values → (x y z : ℤ) → ℤ
rotated_z v x y z = pos (10 ^ 24) *ℤ z +ℤ rotation v.ry *ℤ x -ℤ rotation v.rx *ℤ y

-- M * R * X_S + d: "one raw scale step as 1 over 10^11", and a raw translation of 0.001 m is 10 units of 0.1 mm
unfoldable pub moved : (ds rotated d : ℤ) → ℤ
moved ds rotated d = (pos (10 ^ 11) +ℤ ds) *ℤ rotated +ℤ pos (10 * 10 ^ 35) *ℤ d

-- ---- answers near it

-- c times x is y, within e
pub record About (c : ℕ) (x y : ℤ) (e : ℕ) : Type 0 where
  pub within : nat_abs (pos c *ℤ x -ℤ y) ≤ e

-- each coordinate is the exact one within e, over 10^35
pub record Near (e : ℕ) (v : Values) (x y z : ℤ) (t : Position) : Type 0 where
  pub at_x : About (10 ^ 35) t.x (moved v.ds (rotated_x v x y z) v.dx) e
  pub at_y : About (10 ^ 35) t.y (moved v.ds (rotated_y v x y z) v.dy) e
  pub at_z : About (10 ^ 35) t.z (moved v.ds (rotated_z v x y z) v.dz) e

-- a refusal with "coordinates zero"
abbrev pub zeros : ℕ → Position
zeros n = record { refusal = n; x = pos 0; y = pos 0; z = pos 0 }

-- refusal n, or where n is 0 the target within e; which whole numbers are answered there is free
pub record Answered (e n : ℕ) (v : Values) (x y z : ℤ) (t : Position) : Type 0 where
  pub refusal : t.refusal ≡ n
  pub zero : (n ≡ 0 → ⊥) → t ≡ zeros n
  pub near : n ≡ 0 → Near e v x y z t

-- ---- refusals

-- one of three is beyond ±limit
abbrev pub beyond_any : ℕ → (a b c : ℤ) → Bool
beyond_any limit a b c = ltb limit (nat_abs a) || ltb limit (nat_abs b) || ltb limit (nat_abs c)

-- 9 POSITION: "X, Y, Z in 0.1 mm, each within ±10^11"; 5 RANGE: a value that int23, int32 or int25 has not
abbrev pub formula_tests : Values → (x y z : ℤ) → List Test
formula_tests v x y z =
    (9, beyond_any (10 ^ 11) x y z)
    ∷ (5, beyond_any (2 ^ 22 - 1) v.dx v.dy v.dz)
    ∷ (5, beyond_any (2 ^ 31 - 1) v.rx v.ry v.rz)
    ∷ (5, ltb (2 ^ 24 - 1) (nat_abs v.ds))
    ∷ []
