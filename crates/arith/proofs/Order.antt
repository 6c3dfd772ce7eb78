-- The laws that round what a branch knows into the tests of a definition: for `search tests`.
-- Assumes nothing.
use mathlib.Core.Path.{◌≡◌, refl, sym, ◌∙◌}
use Prim.Native.Nat.{ℕ, ◌<◌}
use native.Mathlib.Nat.{lt_irrefl}
use native.Mathlib.Omega.{arith}
use mathlib.Core.Bool.{Bool, true, false, cond}
use Prim.Native.Nat.{◌^◌}
use lib.Dec.{T, ltb, eqb, lit<}
use lib.IntN.{ℤ}
use lib.Signed.{mag}
use mir.Syntax.{w64}
use mir.Val.{SFits, of_z}
use Rattle.arith.specs.Whole.{same_z}
use Rattle.arith.proofs.Whole.{bits-yes, bits-no}
use borrow.Author.Tests.{lt-ltb, le-ltb, le-leb, lt-leb, eq-eqb, ne_eqb}

-- what a call ensures and what a branch on its result says
pub is : {A : Type 0} {a b c : A} → a ≡ b → a ≡ c → b ≡ c
is p q = sym p ∙ q

-- the same of a call that answers a refusal number: b is what its contract names
pub none_of_lem : (a b : ℕ) → a ≡ b → a ≡ 0 → eqb b 0 ≡ true
none_of_lem a b p q = eq-eqb b 0 (sym p ∙ q)

pub some_of : (a b : ℕ) → a ≡ b → (a ≡ 0 → ⊥) → eqb b 0 ≡ false
some_of a b p q = ne_eqb b 0 (λ e. q (p ∙ e))

pub ruleset parts = (none_of_lem, some_of)

pub ruleset tests = (lt-ltb, le-ltb, le-leb, lt-leb, eq-eqb, ne_eqb)

-- the test of signed numbers: the machine compares their bits
module _ (a b : ℤ) (p : SFits w64 a) (q : SFits w64 b) where
  pub same-yes : of_z w64 a ≡ of_z w64 b → same_z a b ≡ true
  unfolding same_z
  same-yes e = bits-yes a b p q e

  pub same-no : (of_z w64 a ≡ of_z w64 b → ⊥) → same_z a b ≡ false
  unfolding same_z
  same-no e = bits-no a b e

-- that a written number fits is computed
pub fits-literal : {z : ℤ} → T (ltb (mag z) (2 ^ 63)) → SFits w64 z
fits-literal t = record { sfits = lit< t }

pub ruleset signed-tests = (lt-ltb, le-ltb, le-leb, lt-leb, eq-eqb, ne_eqb, same-yes, same-no, fits-literal, tt)

-- a chain of refusals that gives 0 gives none of them
pub none_first : (b : Bool) (n y : ℕ) → 0 < n → cond b n y ≡ 0 → b ≡ false
none_first true n y h e = let z : n < n = omega arith in absurd (lt_irrefl n z)
none_first false n y h e = refl

pub none_rest : (b : Bool) (n y : ℕ) → 0 < n → cond b n y ≡ 0 → y ≡ 0
none_rest true n y h e = let z : n < n = omega arith in absurd (lt_irrefl n z)
none_rest false n y h e = e
