-- The whole number nearest to a number of areas and a rest, halves away from zero.
-- Assumes nothing.
use mathlib.Core.Path.{◌≡◌, sym, ◌∙◌}
use mathlib.Core.Bool.{Bool, true, false, cond}
use Prim.Native.Nat.{ℕ, suc, ◌+◌, ◌*◌, ◌-◌, ◌≤◌, ◌<◌}
use native.Mathlib.Omega.{arith}
use native.Mathlib.Nat.{mul-le-mul_right}
use native.Mathlib.Decide.{dec_le}
use borrow.Author.Tests.{le-leb, lt-leb}
use lib.Dec.{leb, ltb→lt}
use lib.IntN.{ℤ, pos, negsuc, nat_abs, ◌+ℤ◌, ◌-ℤ◌, ◌*ℤ◌}
use lib.Signed.{◌<ℤ◌, ◌≤ℤ◌}
use Rattle.arith.proofs.Int.{Ex, ring, at, nat, ◌⊞◌, ◌⊟◌, ◌⊠◌, abs-within, abs-add, abs-mul}
use Rattle.grid_bilinear.specs.Bilinear.{nearest_whole}
use Rattle.grid_bilinear.proofs.Nearest.{nearest-only}
use Rattle.grid_bilinear.proofs.Bounds.{nearest-bound}
use Rattle.grid_rows.specs.Private.{number_of, half_up}

-- twice the distance of z from the number, times the area
abbrev apart : ℕ → ℤ → ℕ → Ex → Ex
apart d q r z = nat (2 * d) ⊠ z ⊟ nat 2 ⊠ (at q ⊠ nat d ⊞ nat r)

module _ (d : ℕ) (q : ℤ) (r : ℕ) (h : r < d) where
  pub lower : 2 * r < d → q ≡ nearest_whole (number_of d q r) d
  unfolding number_of
  lower l =
      let most : nat_abs (apart d q r (at q)).val ≤ 2 * r = abs-within (apart d q r (at q)) (omega arith) (omega arith) in
      nearest-only (q *ℤ pos d +ℤ pos r) d (omega arith) q (omega arith) (λ e. absurd (omega arith))

  pub upper : d < 2 * r → q +ℤ pos 1 ≡ nearest_whole (number_of d q r) d
  unfolding number_of
  upper l =
      let z = at q ⊞ nat 1 in
      let most : nat_abs (apart d q r z).val ≤ 2 * d - 2 * r = abs-within (apart d q r z) (omega arith) (omega arith) in
      nearest-only (q *ℤ pos d +ℤ pos r) d (omega arith) (q +ℤ pos 1) (omega arith) (λ e. absurd (omega arith))

-- the sign tells where a half goes
pub stays-below : (d : ℕ) (q : ℤ) (r : ℕ) → r < d → 2 * r ≤ d → q <ℤ pos 0 → q ≡ nearest_whole (number_of d q r) d
unfolding number_of
stays-below d (pos m) r k h l = absurd (omega (arith, ltb→lt m 0 l.lt))
stays-below d (negsuc m) r k h l =
    nearest-only (negsuc m *ℤ pos d +ℤ pos r) d (omega arith) (negsuc m) (abs-within (apart d (negsuc m) r (at (negsuc m))) (omega arith) (omega arith))
    (λ _. abs-within (at (negsuc m) ⊠ nat d ⊞ nat r) (omega arith) (omega arith))

pub rises-above : (d : ℕ) (q : ℤ) (r : ℕ) → r < d → d ≤ 2 * r → pos 0 ≤ℤ q → q +ℤ pos 1 ≡ nearest_whole (number_of d q r) d
unfolding number_of
rises-above d (negsuc m) r k h l = absurd l.le
rises-above d (pos m) r k h l =
    nearest-only (pos m *ℤ pos d +ℤ pos r) d (omega arith) (pos m +ℤ pos 1) (abs-within (apart d (pos m) r (nat m ⊞ nat 1)) (omega arith) (omega arith))
    (λ _. abs-within (nat m ⊠ nat d ⊞ nat r) (omega arith) (omega arith))

-- the comparison decides the half
pub half_up_lem : (d : ℕ) (q : ℤ) (r : ℕ) → d ≤ 2 * r → q +ℤ pos 1 ≡ half_up d q r
unfolding half_up
half_up_lem d q r h = rw (le-leb d (2 * r) h)

pub half_down : (d : ℕ) (q : ℤ) (r : ℕ) → 2 * r < d → q ≡ half_up d q r
unfolding half_up
half_down d q r h = rw (lt-leb d (2 * r) h)

-- a sum that is not negative, rounded
pub rounds-above : (d : ℕ) (q : ℤ) (r : ℕ) → r < d → pos 0 ≤ℤ q → half_up d q r ≡ nearest_whole (number_of d q r) d
unfolding half_up
rounds-above d q r h l = by (dec_le d (2 * r))
  where
    by : Dec (d ≤ 2 * r) → cond (leb d (2 * r)) (q +ℤ pos 1) q ≡ nearest_whole (number_of d q r) d
    by (yes k) = rw (le-leb d (2 * r) k) (rises-above d q r h k l)
    by (no k) = rw (lt-leb d (2 * r) (omega arith)) (lower d q r h (omega arith))

-- a negative one, as its opposite
pub rounds-below : (d : ℕ) (q : ℤ) (r : ℕ) → r < d → q <ℤ pos 0 → pos 0 -ℤ half_up d (pos 0 -ℤ (q +ℤ pos 1)) (d - r) ≡ nearest_whole (number_of d q r) d
unfolding half_up
rounds-below d q r h l = by (dec_le d (2 * (d - r)))
  where
    by : Dec (d ≤ 2 * (d - r)) → pos 0 -ℤ cond (leb d (2 * (d - r))) (pos 0 -ℤ (q +ℤ pos 1) +ℤ pos 1) (pos 0 -ℤ (q +ℤ pos 1)) ≡ nearest_whole (number_of d q r) d
    by (yes k) =
        rw (le-leb d (2 * (d - r)) k)
        (ring (nat 0 ⊟ (nat 0 ⊟ (at q ⊞ nat 1) ⊞ nat 1)) (at q) (omega arith) ∙ stays-below d q r h (omega arith) l)
    by (no k) =
        rw (lt-leb d (2 * (d - r)) (omega arith)) (ring (nat 0 ⊟ (nat 0 ⊟ (at q ⊞ nat 1))) (at q ⊞ nat 1) (omega arith) ∙ upper d q r h (omega arith))

pub half-most : (d : ℕ) (q : ℤ) (r : ℕ) {b : ℕ} → nat_abs q ≤ b → nat_abs (half_up d q r) ≤ b + 1
unfolding half_up
half-most d q r {b} h = by (leb d (2 * r))
  where
    by : (t : Bool) → nat_abs (cond t (q +ℤ pos 1) q) ≤ b + 1
    by true = omega (arith, abs-add q (pos 1))
    by false = omega arith

-- it is at most one beyond the number of areas
pub nearest-most : (d : ℕ) (q : ℤ) (r : ℕ) → r < d → {b : ℕ} → nat_abs q ≤ b → nat_abs (nearest_whole (number_of d q r) d) ≤ b + 1
unfolding number_of
nearest-most d q r h {b} k =
    nearest-bound (q *ℤ pos d +ℤ pos r) d (b + 1) (omega arith)
    (omega (arith, abs-add (q *ℤ pos d) (pos r), abs-mul q (pos d), mul-le-mul_right d k))
