-- The demands of request A12, as statements. The proofs are in proofs/Steps.antt.
-- Assumes nothing.
use Rattle.std.specs.Prelude.{ℕ, ◌-◌, ◌^◌, ◌≤◌, ◌≡◌, not, ◌||◌, List, [], ◌∷◌, ◌++◌, ltb, ℤ, pos, nat_abs, Some}
use Rattle.arith.specs.First.{Test}
use Rattle.arith.specs.Whole.{same_z}
use Rattle.record_transformations.specs.declared.Parameters.{Parameters}
use Rattle.record_transformations.specs.declared.Helmert.{Helmert}
use Rattle.message_rows.specs.Message.{kind_tests}
use Rattle.message_records.specs.Kinds.{read_helmert}
use Rattle.datum_formula.specs.declared.Values.{Values}
use Rattle.datum_formula.specs.declared.Position.{Position}
use Rattle.datum_formula.specs.Formula.{Near}
use Rattle.datum.specs.Step.{absent}

-- ---- the answer to a message and a position

abbrev pub helmert : List ℕ → Helmert
helmert s = (read_helmert s).value

-- "Refusals: 1 to 5, KIND if not 1021, POSITION, METHOD if DF150 isn't 0, ABSENT if one of the seven parameters has no value"
abbrev pub in_order : List ℕ → (x y z : ℤ) → List Test
in_order s x y z =
    kind_tests 1021 1021 s
    ++ ((9, ltb (10 ^ 11) (nat_abs x) || ltb (10 ^ 11) (nat_abs y) || ltb (10 ^ 11) (nat_abs z))
    ∷ (11, not (same_z (helmert s).system.computation (pos 0)))
    ∷ (15, absent (helmert s).parameters)
    ∷ [])

-- each of three is within ±limit
abbrev pub Inside : ℕ → (a b c : ℤ) → Type 0
Inside limit a b c = (nat_abs a ≤ limit) × (nat_abs b ≤ limit) × (nat_abs c ≤ limit)

-- the parameters say these values
abbrev pub sayings : Values → Parameters
sayings v =
    record { dx = Some v.dx; dy = Some v.dy; dz = Some v.dz; rx = Some v.rx; ry = Some v.ry; rz = Some v.rz; ds = Some v.ds }

-- none of the refusals applies: all seven parameters have a value
pub record Ready (s : List ℕ) (x y z : ℤ) : Type 0 where
  pub accepted : (read_helmert s).refusal ≡ 0
  pub position : Inside (10 ^ 11) x y z
  pub method : (helmert s).system.computation ≡ pos 0
  pub values : Values
  pub said : (helmert s).parameters ≡ sayings values

-- 0 is answered exactly then; "each coordinate answered must lie within one unit"; with a refusal "coordinates zero"
pub record Bound (s : List ℕ) (x y z : ℤ) (t : Position) : Type 0 where
  pub done : Ready s x y z → t.refusal ≡ 0
  pub ready : t.refusal ≡ 0 → Ready s x y z
  pub near : (r : Ready s x y z) → Near (10 ^ 35) r.values x y z t
  pub zero : (t.refusal ≡ 0 → ⊥) → (t.x ≡ pos 0) × (t.y ≡ pos 0) × (t.z ≡ pos 0)

-- ---- the formula on any values that the fields hold

pub record Fit (v : Values) (x y z : ℤ) : Type 0 where
  pub position : Inside (10 ^ 11) x y z
  pub translation : Inside (2 ^ 22 - 1) v.dx v.dy v.dz
  pub rotation : Inside (2 ^ 31 - 1) v.rx v.ry v.rz
  pub scale : nat_abs v.ds ≤ 2 ^ 24 - 1

pub record FormulaBound (e : ℕ) (v : Values) (x y z : ℤ) (t : Position) : Type 0 where
  pub done : Fit v x y z → t.refusal ≡ 0
  pub near : t.refusal ≡ 0 → Near e v x y z t
