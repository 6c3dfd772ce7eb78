-- A run filled place by place: what holds before each.
-- Assumes nothing.
use mathlib.Core.Path.{◌≡◌, refl, sym, ap, ◌∙◌}
use mathlib.Core.List.{List, ◌++◌}
use Prim.Native.Nat.{ℕ, ◌+◌, ◌*◌, ◌≤◌, ◌<◌}
use native.Mathlib.Omega.{arith}
use lib.IntN.{ℤ, pos, nat_abs, ◌+ℤ◌, ◌*ℤ◌}
use lib.ListN.{length, drop, set, length-set}
use Rattle.arith.specs.Lists.{up_to}
use Rattle.arith.proofs.Lists.{fill-turn, fill_done}
use Rattle.arith.proofs.Int.{ring, at, nat, ◌⊞◌, ◌⊠◌}
use Rattle.grid_bilinear.specs.Bilinear.{nearest_whole}
use Rattle.grid_rows.specs.Private.{Fillable, Next, number_of, counts_from}
use Rattle.grid_rows.specs.declared.increments.Quotient.{Quotient}

-- the sum that a part stands for
abbrev pub sum : ℕ → Quotient → ℤ
sum d p = number_of d p.whole p.rest

module _ (mean : ℤ) (d : ℕ) (first by : Quotient) (row₀ : List ℤ) where
  abbrev counts : ℕ → ℤ
  counts = counts_from mean d (sum d first) (sum d by)

  -- before place i: those in front of it are filled
  pub record On (row : List ℤ) (p : Quotient) (i : ℕ) : Type 0 where
    pub places : i ≤ length row₀
    pub length : length row ≡ length row₀
    pub filled : row ≡ up_to counts i ++ drop i row₀
    pub rest : p.rest < d
    pub total : sum d p ≡ sum d first +ℤ pos i *ℤ sum d by
    pub most : nat_abs p.whole ≤ 10000 + i * 10001

  module _ (g : Fillable mean first by d (length row₀)) where
    pub starts : On row₀ first 0
    starts =
        record {
          places = omega arith;
          length = refl;
          filled = refl;
          rest = g.rest;
          total = ring (at (sum d first)) (at (sum d first) ⊞ nat 0 ⊠ at (sum d by)) (omega arith);
          most = omega (arith, g.whole);
        }

    module _ {row : List ℤ} {p : Quotient} {i : ℕ} (o : On row p i) where
      pub whole-most : nat_abs p.whole ≤ 10000000000
      whole-most = omega (arith, o.most, o.places, g.places)

      pub goes_on : (z : ℤ) (q : Quotient) → i < length row₀ → z ≡ mean +ℤ nearest_whole (sum d p) d → Next d p by q → On (set row i z) q (i + 1)
      unfolding counts_from
      goes_on z q h e n =
          record {
            places = omega arith;
            length = simp length-set o.length;
            filled = fill-turn counts row₀ row i z (pos 0) o.filled (e ∙ ap (λ (t : ℤ). mean +ℤ nearest_whole t d) o.total) h;
            rest = n.rest;
            total =
                n.sum ∙ ap (λ (t : ℤ). t +ℤ sum d by) o.total
                ∙ ring (at (sum d first) ⊞ nat i ⊠ at (sum d by) ⊞ at (sum d by)) (at (sum d first) ⊞ nat (i + 1) ⊠ at (sum d by)) (omega arith);
            most = omega (arith, n.most, o.most, g.slope);
          }

      pub ends : length row₀ ≤ i → row ≡ up_to counts (length row₀)
      ends h = fill_done counts row₀ row i (length row₀) o.filled (omega (arith, o.places)) (omega arith)
