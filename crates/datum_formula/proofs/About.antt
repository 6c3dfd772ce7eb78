-- Errors of sums, products and quotients: About c x y e says that c times x is y within e.
-- Assumes nothing.
use mathlib.Core.Path.{◌≡◌, refl, sym, ap, ◌∙◌, subst}
use Prim.Native.Nat.{ℕ, zero, suc, ◌+◌, ◌*◌, ◌/◌, ◌≤◌, ◌<◌}
use native.Mathlib.Nat.{mul-le-mul, le_refl, le_trans, div-add-mod', mod-lt, zero-div}
use native.Mathlib.Omega.{arith}
use lib.Dec.{T, leb, leb→le, ltb→lt}
use lib.IntN.{ℤ, pos, negsuc, neg_ℤ, nat_abs, ◌+ℤ◌, ◌-ℤ◌, ◌*ℤ◌}
use lib.Signed.{quot_z, ◌≤ℤ◌, ◌<ℤ◌}
use Rattle.arith.proofs.Int.{ring, at, nat, minus, ◌⊞◌, ◌⊟◌, ◌⊠◌, abs-add, abs-mul, abs_neg, abs-within}
use Rattle.datum_formula.specs.Formula.{About}

-- a sum of two errors
errors : (z u w : ℤ) {b e : ℕ} → z ≡ u +ℤ w → nat_abs u ≤ b → nat_abs w ≤ e → nat_abs z ≤ b + e
errors z u w p h k = rw p (omega (arith, abs-add u w))

-- an error times a number
error-times : (k u : ℤ) {m b : ℕ} → nat_abs k ≤ m → nat_abs u ≤ b → nat_abs (k *ℤ u) ≤ m * b
error-times k u h l = rw (abs-mul k u) (mul-le-mul h l)

pub exactly : (c : ℕ) (x : ℤ) → About c x (pos c *ℤ x) 0
exactly c x = record { within = abs-within (nat c ⊠ at x ⊟ nat c ⊠ at x) (omega arith) (omega arith) }

module _ {c : ℕ} {x y : ℤ} {b : ℕ} (p : About c x y b) where
  -- the composition of errors
  pub compose : {d : ℕ} {z : ℤ} {e : ℕ} → About d y z e → About (d * c) x z (d * b + e)
  compose {d} {z} {e} q =
      record {
        within =
            errors _ (pos d *ℤ (pos c *ℤ x -ℤ y)) (pos d *ℤ y -ℤ z)
            (ring (nat (d * c) ⊠ at x ⊟ at z) (nat d ⊠ (nat c ⊠ at x ⊟ at y) ⊞ (nat d ⊠ at y ⊟ at z)) (omega arith))
            (error-times (pos d) (pos c *ℤ x -ℤ y) (le_refl d) p.within) q.within;
      }

  pub times : (k : ℤ) {m : ℕ} → nat_abs k ≤ m → About c (x *ℤ k) (y *ℤ k) (m * b)
  times k {m} h =
      record {
        within =
            subst (λ (z : ℤ). nat_abs z ≤ m * b) (ring (at k ⊠ (nat c ⊠ at x ⊟ at y)) (nat c ⊠ (at x ⊠ at k) ⊟ at y ⊠ at k) (omega arith))
            (error-times k (pos c *ℤ x -ℤ y) h p.within);
      }

  module _ {u v : ℤ} {e : ℕ} (q : About c u v e) where
    pub plus : About c (x +ℤ u) (y +ℤ v) (b + e)
    plus =
        record {
          within =
              errors _ (pos c *ℤ x -ℤ y) (pos c *ℤ u -ℤ v)
              (ring (nat c ⊠ (at x ⊞ at u) ⊟ (at y ⊞ at v)) (nat c ⊠ at x ⊟ at y ⊞ (nat c ⊠ at u ⊟ at v)) (omega arith))
              p.within q.within;
        }

    pub less : About c (x -ℤ u) (y -ℤ v) (b + e)
    less =
        record {
          within =
              errors _ (pos c *ℤ x -ℤ y) (neg_ℤ (pos c *ℤ u -ℤ v))
              (ring (nat c ⊠ (at x ⊟ at u) ⊟ (at y ⊟ at v)) (nat c ⊠ at x ⊟ at y ⊞ minus (nat c ⊠ at u ⊟ at v)) (omega arith))
              p.within (rw (abs_neg (pos c *ℤ u -ℤ v)) q.within);
        }

  -- the same number, and an error that is no smaller
  pub widen : {z : ℤ} (e : ℕ) → y ≡ z → T (leb b e) → About c x z e
  widen {z} e f t = record { within = le_trans (subst (λ (w : ℤ). nat_abs (pos c *ℤ x -ℤ w) ≤ b) f p.within) (leb→le b e t) }

-- ---- division toward zero

-- a quotient times its divisor is the dividend, within the divisor
pub divided : (x : ℤ) (n : ℕ) → 0 < n → About n (quot_z x (pos n)) x n
divided (pos a) n h =
    record { within = abs-within (nat n ⊠ nat (a / n) ⊟ nat a) (omega (arith, div-add-mod' a n)) (omega (arith, div-add-mod' a n, mod-lt a h)) }
divided (negsuc a) n h =
    record {
      within =
          abs-within (nat n ⊠ minus (nat (suc a / n)) ⊟ at (negsuc a))
          (omega (arith, div-add-mod' (suc a) n, mod-lt (suc a) h)) (omega (arith, div-add-mod' (suc a) n));
    }

-- what a quotient leaves of the dividend
pub rest-most : (x : ℤ) (n : ℕ) → 0 < n → nat_abs (x -ℤ quot_z x (pos n) *ℤ pos n) ≤ n
rest-most x n h =
    let q = quot_z x (pos n) in
    subst (λ (m : ℕ). m ≤ n)
    (sym (abs_neg (pos n *ℤ q -ℤ x)) ∙ ap nat_abs (ring (minus (nat n ⊠ at q ⊟ at x)) (at x ⊟ at q ⊠ nat n) (omega arith)))
    (divided x n h).within

-- ---- division to the nearest, by an even number: half is added to the magnitude first

quot-neg : (k m : ℕ) → quot_z (neg_ℤ (pos k)) (pos m) ≡ neg_ℤ (pos (k / m))
quot-neg zero m = ap pos (zero-div m) ∙ sym (ap (λ (n : ℕ). neg_ℤ (pos n)) (zero-div m))
quot-neg (suc k) m = refl

module _ (h : ℕ) (some : 0 < 2 * h) where
  half-off : (k : ℕ) → (2 * h * ((k + h) / (2 * h)) ≤ k + h) × (k + h ≤ 2 * h * ((k + h) / (2 * h)) + 2 * h)
  half-off k =
      let e = div-add-mod' (k + h) (2 * h) in
      let l = mod-lt (k + h) some in
      (omega arith, omega arith)

  pub rounded-above : (x : ℤ) → pos 0 ≤ℤ x → About (2 * h) (quot_z (x +ℤ pos h) (pos (2 * h))) x h
  rounded-above (pos k) t =
      record {
        within = abs-within (nat (2 * h) ⊠ nat ((k + h) / (2 * h)) ⊟ nat k) (omega (arith, half-off k)) (omega (arith, half-off k));
      }
  rounded-above (negsuc k) t = absurd t.le

  pub rounded-below : (x : ℤ) → x <ℤ pos 0 → About (2 * h) (quot_z (x -ℤ pos h) (pos (2 * h))) x h
  rounded-below (pos k) t = absurd (omega (arith, ltb→lt k 0 t.lt))
  rounded-below (negsuc k) t =
      let e : quot_z (negsuc k -ℤ pos h) (pos (2 * h)) ≡ neg_ℤ (pos ((suc k + h) / (2 * h))) =
      ap (λ (z : ℤ). quot_z z (pos (2 * h))) (ring (at (negsuc k) ⊟ nat h) (minus (nat (suc k + h))) (omega arith)) ∙ quot-neg (suc k + h) (2 * h) in
      subst (λ (z : ℤ). About (2 * h) z (negsuc k) h) (sym e)
      (record {
        within =
            abs-within (nat (2 * h) ⊠ minus (nat ((suc k + h) / (2 * h))) ⊟ at (negsuc k)) (omega (arith, half-off (suc k))) (omega (arith, half-off (suc k)));
      })
