-- A sum and what it grows by, as whole numbers of areas and rests: added with and without a carry.
-- Assumes nothing.
use mathlib.Core.Path.{◌≡◌, refl, ap, ◌∙◌}
use mathlib.Core.Bool.{false}
use Prim.Native.Nat.{ℕ, suc, ◌+◌, ◌*◌, ◌-◌, ◌/◌, ◌≤◌, ◌<◌}
use native.Mathlib.Nat.{div-mul-le_self, lt-div-mul-add, div-lt_iff_lt-mul}
use native.Mathlib.Omega.{arith}
use lib.IntN.{ℤ, pos, negsuc, neg_ℤ, nat_abs, ◌+ℤ◌, ◌-ℤ◌, ◌*ℤ◌}
use lib.Signed.{lt_z, ◌≤ℤ◌}
use borrow.Author.Tests.{le-ltb}
use Rattle.arith.proofs.Int.{ring, order, at, nat, ◌⊞◌, ◌⊟◌, ◌⊠◌, abs-add, abs_neg, abs-parts, abs-within}
use Rattle.grid_rows.specs.Private.{number_of, Next, Split}
use Rattle.grid_rows.specs.declared.increments.Quotient.{Quotient}

module _ (d : ℕ) (p by : Quotient) (w : ℤ) where
  pub no-carry : w ≡ p.whole +ℤ by.whole → p.rest < d - by.rest → Next d p by (record { whole = w; rest = p.rest + by.rest })
  unfolding number_of
  no-carry e h =
      record {
        rest = omega arith;
        sum =
            rw e
            (ring ((at p.whole ⊞ at by.whole) ⊠ nat d ⊞ nat (p.rest + by.rest))
            (at p.whole ⊠ nat d ⊞ nat p.rest ⊞ (at by.whole ⊠ nat d ⊞ nat by.rest)) (omega arith));
        most = rw e (omega (arith, abs-add p.whole by.whole));
      }

  pub carry : w ≡ p.whole +ℤ by.whole +ℤ pos 1 → p.rest < d → by.rest < d → d - by.rest ≤ p.rest → Next d p by (record { whole = w; rest = p.rest - (d - by.rest) })
  unfolding number_of
  carry e h k l =
      record {
        rest = omega arith;
        sum =
            rw e
            (ring ((at p.whole ⊞ at by.whole ⊞ nat 1) ⊠ nat d ⊞ nat (p.rest - (d - by.rest)))
            (at p.whole ⊠ nat d ⊞ nat p.rest ⊞ (at by.whole ⊠ nat d ⊞ nat by.rest)) (omega arith));
        most = rw e (omega (arith, abs-add p.whole by.whole, abs-add (p.whole +ℤ by.whole) (pos 1)));
      }

-- what a sum grows by
module _ (d : ℕ) (a b : Quotient) (w : ℤ) where
  pub not-owing : w ≡ b.whole -ℤ a.whole → b.rest < d → a.rest ≤ b.rest → nat_abs a.whole ≤ 2560 → nat_abs b.whole ≤ 2560
      → Split d (number_of d b.whole b.rest -ℤ number_of d a.whole a.rest) (record { whole = w; rest = b.rest - a.rest })
  unfolding number_of
  not-owing e h l p q =
      record {
        rest = omega arith;
        total =
            rw e
            (ring ((at b.whole ⊟ at a.whole) ⊠ nat d ⊞ nat (b.rest - a.rest))
            (at b.whole ⊠ nat d ⊞ nat b.rest ⊟ (at a.whole ⊠ nat d ⊞ nat a.rest)) (omega arith));
        most = rw e (omega (arith, abs-add b.whole (neg_ℤ a.whole), abs_neg a.whole));
      }

  pub owing : w ≡ b.whole -ℤ a.whole -ℤ pos 1 → a.rest < d → b.rest < a.rest → nat_abs a.whole ≤ 2560 → nat_abs b.whole ≤ 2560
      → Split d (number_of d b.whole b.rest -ℤ number_of d a.whole a.rest) (record { whole = w; rest = d - a.rest + b.rest })
  unfolding number_of
  owing e h l p q =
      record {
        rest = omega arith;
        total =
            rw e
            (ring ((at b.whole ⊟ at a.whole ⊟ nat 1) ⊠ nat d ⊞ nat (d - a.rest + b.rest))
            (at b.whole ⊠ nat d ⊞ nat b.rest ⊟ (at a.whole ⊠ nat d ⊞ nat a.rest)) (omega arith));
        most = rw e (omega (arith, abs-add b.whole (neg_ℤ a.whole), abs_neg a.whole, abs-add (b.whole -ℤ a.whole) (negsuc 0)));
      }

-- ---- a sum cut into areas

-- raised by k, a number of at most k is not negative
pub raised-above : (z : ℤ) (k : ℕ) → nat_abs z ≤ k → pos 0 ≤ℤ (z +ℤ pos k)
raised-above z k h = order (nat 0) (at z ⊞ nat k) (omega (arith, abs-parts z))

pub not-below : {z : ℤ} → pos 0 ≤ℤ z → lt_z z (pos 0) ≡ false
not-below {z = pos n} h = le-ltb n 0 (omega arith)
not-below {z = negsuc n} h = absurd h.le

div_most : (n d b : ℕ) → 0 < d → n ≤ b * d → n / d ≤ b
div_most n d b p h =
    let l : n < (b + 1) * d = omega arith in
    omega (arith, (div-lt_iff_lt-mul p).1 l)

-- n is the sum raised by 2,560 areas
module _ (d : ℕ) (s : ℤ) (n : ℕ) (p : 0 < d) (h : nat_abs s ≤ 2560 * d) (e : pos n ≡ s +ℤ pos (2560 * d)) where
  pub raised-most : n ≤ 5120 * d
  raised-most = omega (arith, ap nat_abs e, abs-add s (pos (2560 * d)))

  pub whole-most : n / d ≤ 5120
  whole-most = div_most n d 5120 p raised-most

  pub cut : (w : ℤ) → w ≡ pos (n / d) -ℤ pos 2560 → Split d s (record { whole = w; rest = n - n / d * d }) × (nat_abs w ≤ 2560)
  unfolding number_of
  cut w f =
      let low : n / d * d ≤ n = div-mul-le_self n d in
      let most : nat_abs w ≤ 2560 = rw f (abs-within (nat (n / d) ⊟ nat 2560) (omega (arith, whole-most)) (omega arith)) in (
        record {
          rest = omega (arith, lt-div-mul-add {a = n} {b = d} p);
          total =
              rw f
              (ring ((nat (n / d) ⊟ nat 2560) ⊠ nat d ⊞ nat (n - n / d * d)) (nat n ⊟ nat (2560 * d)) (omega arith)
              ∙ ap (λ (z : ℤ). z -ℤ pos (2560 * d)) e
              ∙ ring (at s ⊞ nat (2560 * d) ⊟ nat (2560 * d)) (at s) (omega arith));
          most = omega arith;
        },
        most,
      )
