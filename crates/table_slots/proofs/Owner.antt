-- Owners are 1 and 2, and an owner and a key are one number. Rests on the definitions.
-- Assumes nothing.
use Prim.Native.Nat.{ℕ, ◌≤◌}
use mathlib.Core.Bool.{true, false, ◌||◌}
use mathlib.Core.Path.{◌≡◌, sym, subst, ◌∙◌}
use native.Mathlib.Omega.{arith}
use native.Mathlib.Decide.{ℕ_discrete}
use lib.Dec.{eqb}
use borrow.Author.Tests.{ne_eqb}
use Rattle.arith.proofs.Tests.{false-ne-true}
use Rattle.table_slots.specs.Slots.{is_owner, joined}

-- what holds of 1 and 2 holds of each owner
pub by-owner : (P : ℕ → Type 0) (o : ℕ) → is_owner o ≡ true → P 1 → P 2 → P o
unfolding is_owner
by-owner P o e a b = go (ℕ_discrete o 1) (ℕ_discrete o 2)
  where
    go : Dec (o ≡ 1) → Dec (o ≡ 2) → P o
    go (yes q) d = subst P (sym q) a
    go (no n) (yes q) = subst P (sym q) b
    go (no n) (no k) = absurd (let z : (eqb o 1 || eqb o 2) ≡ false = rw (ne_eqb o 1 n, ne_eqb o 2 k) in false-ne-true (sym z ∙ e))

pub owner-range : (o : ℕ) → is_owner o ≡ true → (1 ≤ o) × (o ≤ 2)
owner-range o e = by-owner (λ p. (1 ≤ p) × (p ≤ 2)) o e (omega arith, omega arith) (omega arith, omega arith)

pub not_none : (o : ℕ) → is_owner o ≡ true → o ≡ 0 → ⊥
not_none o e z = omega (arith, (owner-range o e).0)

pub joined_same : (o p k j : ℕ) → is_owner o ≡ true → is_owner p ≡ true → joined o k ≡ joined p j → (o ≡ p) × (k ≡ j)
joined_same o p k j a b e =
    let x = (owner-range o a).1 in
    let y = (owner-range p b).1 in
    (omega arith, omega arith)
