-- Where a position stands along one direction: outside, or its steps and its cell.
-- Assumes nothing.
use mathlib.Core.Path.{◌≡◌, refl, ◌∙◌}
use mathlib.Core.Bool.{Bool, true, false, cond, ◌||◌}
use Prim.Native.Nat.{ℕ, ◌+◌, ◌*◌, ◌/◌, ◌≤◌, ◌<◌}
use native.Mathlib.Omega.{arith}
use borrow.Author.Tests.{lt-ltb, le-ltb, ne_eqb}
use Rattle.std.proofs.Common.{tests}
use lib.Dec.{T, eqb, ltb}
use lib.IntN.{ℤ, pos, negsuc, nat_abs, ◌+ℤ◌}
use lib.Signed.{lt_z, ◌<ℤ◌}
use Rattle.arith.proofs.Int.{at, nat, ◌⊞◌, order_lt}
use Rattle.grid_bilinear.specs.Bilinear.{from_edge, outside, cell}
use Rattle.grid_direction.specs.Inner.{greatest_spacing, along_of}
use Rattle.grid_direction.specs.declared.PlaceAlong.{PlaceAlong}

is_true : (t : Bool) → T t → t ≡ true
is_true true h = refl
is_true false h = absurd h

or-second : (a b : Bool) → b ≡ true → (a || b) ≡ true
or-second true b e = refl
or-second false b e = e

or-first : (a b : Bool) → a ≡ true → (a || b) ≡ true
or-first a b e = rw e

-- a difference beyond 10^13 is outside of any grid
pub far-outside : (d : ℕ) (u : ℤ) → d ≤ greatest_spacing → 10000000000000 < nat_abs u → outside d u ≡ true
unfolding outside from_edge
far-outside d (pos n) h k = or-second (ltb (n + 3 * (d / 2)) 0) _ (lt-ltb (3 * d) (n + 3 * (d / 2)) (omega arith))
far-outside d (negsuc n) h k =
    let l : (negsuc n +ℤ pos (3 * (d / 2))) <ℤ pos 0 = order_lt (at (negsuc n) ⊞ nat (3 * (d / 2))) (nat 0) (omega arith) in
    or-first (lt_z (negsuc n +ℤ pos (3 * (d / 2))) (pos 0)) _ (is_true _ l.lt)

abbrev pub unplaced : ℕ → ℤ → Bool
unplaced d u = eqb d 0 || ltb greatest_spacing d || outside d u

module _ (d : ℕ) (u : ℤ) where
  pub along-out : {a : PlaceAlong} → (a.refusal ≡ 14) × (a.steps ≡ 0) × (a.cell ≡ 0) → unplaced d u ≡ true → a ≡ along_of d u
  unfolding along_of
  along-out h e = (λ i. record { refusal = h.0 i; steps = h.1 i; cell = h.2 i }) ∙ rw e

  pub unplaced-range : (0 < d → d ≤ greatest_spacing → ⊥) → unplaced d u ≡ true
  unplaced-range h = grind (arith, tests)

  module _ (p : 0 < d) (q : d ≤ greatest_spacing) where
    pub unplaced-is : {b : Bool} → outside d u ≡ b → unplaced d u ≡ b
    unplaced-is e = rw (ne_eqb d 0 (λ z. absurd (omega arith)), le-ltb greatest_spacing d q) e

    pub along-in : {a : PlaceAlong} → a.refusal ≡ 0 → a.steps ≡ nat_abs (from_edge d u) → a.cell ≡ cell d (nat_abs (from_edge d u)) → outside d u ≡ false → a ≡ along_of d u
    unfolding along_of
    along-in h k l e = (λ i. record { refusal = h i; steps = k i; cell = l i }) ∙ rw (unplaced-is e)

    -- of a spacing that a grid has
    pub along-refusal : (along_of d u).refusal ≡ cond (outside d u) 14 0
    unfolding along_of
    along-refusal = by (outside d u) (unplaced-is refl)
      where
        by : (b : Bool) → unplaced d u ≡ b → (along_of d u).refusal ≡ cond b 14 0
        by true e = unfold along_of in rw e
        by false e = unfold along_of in rw e

    module _ (o : outside d u ≡ false) where
      pub along-steps : (along_of d u).steps ≡ nat_abs (from_edge d u)
      unfolding along_of
      along-steps = rw (unplaced-is o)

      pub along-cell : (along_of d u).cell ≡ cell d (nat_abs (from_edge d u))
      unfolding along_of
      along-cell = rw (unplaced-is o)
