-- The places of a row are within the limits of positions if its first and its last place are.
-- Assumes nothing.
use mathlib.Core.Path.{◌≡◌, refl, sym, ap, ◌∙◌, subst}
use mathlib.Core.Bool.{Bool, true, false, not, cond, ◌||◌}
use Prim.Native.Nat.{ℕ, ◌+◌, ◌*◌, ◌-◌, ◌≤◌, ◌<◌}
use native.Mathlib.Nat.{mul-le-mul_right}
use native.Mathlib.Omega.{arith}
use borrow.Author.Tests.{ltb-false, le-ltb}
use lib.Dec.{ltb, ltb→lt}
use lib.Signed.{◌≤ℤ◌, ◌<ℤ◌}
use lib.IntN.{ℤ, pos, negsuc, nat_abs, ◌+ℤ◌, ◌*ℤ◌}
use Rattle.arith.specs.Whole.{same_z}
use Rattle.arith.specs.Lists.{all_below}
use Rattle.arith.proofs.First.{or-false}
use Rattle.arith.proofs.Lists.{all_true}
use Rattle.arith.proofs.Tests.{all-stops}
use Rattle.arith.proofs.Int.{ring, at, nat, ◌⊞◌, ◌⊠◌, abs-within, within-abs}
use Rattle.grid_refusals.specs.Refusals.{ellipsoidal, beyond}
use Rattle.grid_row_refusals.specs.ShiftRow.{any_beyond}

-- ---- the limits

abbrev limit_north : ℤ → ℕ
limit_north number = cond (ellipsoidal number) 3240000000 1000000000000

abbrev limit_east : ℤ → ℕ
limit_east number = cond (ellipsoidal number) 6480000000 1000000000000

limit-most : (number : ℤ) → limit_east number ≤ 1000000000000
limit-most number = by (ellipsoidal number)
  where
    by : (b : Bool) → cond b 6480000000 1000000000000 ≤ 1000000000000
    by true = omega arith
    by false = omega arith

abbrev far : Bool → ℕ → ℕ → Bool
far b n e = cond b (ltb 3240000000 n || ltb 6480000000 e) (ltb 1000000000000 n || ltb 1000000000000 e)

near_of : (b : Bool) (n e : ℕ) → far b n e ≡ false → (n ≤ cond b 3240000000 1000000000000) × (e ≤ cond b 6480000000 1000000000000)
near_of true n e h = let t = or-false (ltb 3240000000 n) (ltb 6480000000 e) h in (ltb-false 3240000000 n t.0, ltb-false 6480000000 e t.1)
near_of false n e h = let t = or-false (ltb 1000000000000 n) (ltb 1000000000000 e) h in (ltb-false 1000000000000 n t.0, ltb-false 1000000000000 e t.1)

of-near : (b : Bool) (n e : ℕ) → n ≤ cond b 3240000000 1000000000000 → e ≤ cond b 6480000000 1000000000000 → far b n e ≡ false
of-near true n e h k = rw (le-ltb 3240000000 n h, le-ltb 6480000000 e k)
of-near false n e h k = rw (le-ltb 1000000000000 n h, le-ltb 1000000000000 e k)

module _ (number n : ℤ) where
  near : (e : ℤ) → beyond number n e ≡ false → (nat_abs n ≤ limit_north number) × (nat_abs e ≤ limit_east number)
  near e h = near_of (ellipsoidal number) (nat_abs n) (nat_abs e) h

  pub near-most : (e : ℤ) → beyond number n e ≡ false → nat_abs e ≤ 1000000000000
  near-most e h = omega (arith, (near e h).1, limit-most number)

  -- ---- a row that starts at e, step after step
  module _ (e : ℤ) (step count : ℕ) where
    abbrev place : ℕ → ℤ
    place k = e +ℤ pos k *ℤ pos step

    abbrev fine : ℕ → Bool
    fine k = not (beyond number n (place k))

    pub at_first : place 0 ≡ e
    at_first = ring (at e ⊞ nat 0 ⊠ nat step) (at e) (omega arith)

    pub all_near : beyond number n e ≡ false → beyond number n (place (count - 1)) ≡ false → all_below fine count ≡ true
    all_near h l =
        all_true fine count (λ k b.
        let m : k * step ≤ (count - 1) * step = mul-le-mul_right step (omega arith) in
        let p = within-abs (at e) (near e h).1 in
        let q = within-abs (at e ⊞ nat (count - 1) ⊠ nat step) (near (place (count - 1)) l).1 in
        ap not (of-near (ellipsoidal number) (nat_abs n) (nat_abs (place k)) (near e h).0 (abs-within (at e ⊞ nat k ⊠ nat step) (omega (arith, q.0)) (omega (arith, p.1)))))

    pub one-near : count ≡ 1 → beyond number n e ≡ false → all_below fine count ≡ true
    one-near c h = all_near h (subst (λ (z : ℤ). beyond number n z ≡ false) (sym at_first ∙ ap place zero_is) h)
      where
        zero_is : 0 ≡ count - 1
        zero_is = omega arith

    pub some-far : (k : ℕ) → k < count → beyond number n (place k) ≡ true → all_below fine count ≡ false
    some-far k l h = all-stops fine k count (ap not h) l

    pub first-far : 0 < count → beyond number n e ≡ true → all_below fine count ≡ false
    first-far l h = some-far 0 l (subst (λ (z : ℤ). beyond number n z ≡ true) (sym at_first) h)

    -- the second place is past every limit
    pub step-far : 1 < count → nat_abs e ≤ 1000000000000 → 2000000000000 < step → all_below fine count ≡ false
    step-far l h s = some-far 1 l (by (beyond number n (place 1)) refl)
      where
        by : (b : Bool) → beyond number n (place 1) ≡ b → beyond number n (place 1) ≡ true
        by true q = q
        by false q =
            let p = within-abs (at e) h in
            absurd (omega (arith, p.1, within-abs (at e ⊞ nat 1 ⊠ nat step) (near-most (place 1) q)))

-- ---- the same of a step that is not negative

module _ (number n e : ℤ) where
  pub first-beyond : (step : ℤ) (count : ℕ) → pos 0 ≤ℤ step → 0 < count → beyond number n e ≡ true → any_beyond number n e step count ≡ true
  unfolding any_beyond
  first-beyond (pos step) count h l b = ap not (first-far number n e step count l b)
  first-beyond (negsuc m) count h l b = absurd h.le

  pub one-fine : (step : ℤ) (count : ℕ) → pos 0 ≤ℤ step → count ≡ 1 → beyond number n e ≡ false → any_beyond number n e step count ≡ false
  unfolding any_beyond
  one-fine (pos step) count h l b = ap not (one-near number n e step count l b)
  one-fine (negsuc m) count h l b = absurd h.le

  pub step-beyond : (step : ℤ) (count : ℕ) → 1 < count → beyond number n e ≡ false → pos 2000000000000 <ℤ step → any_beyond number n e step count ≡ true
  unfolding any_beyond
  step-beyond (pos step) count l b s = ap not (step-far number n e step count l (near-most number n e b) (ltb→lt 2000000000000 step s.lt))
  step-beyond (negsuc m) count l b s = absurd s.lt

  pub last-tells : (step : ℤ) (count : ℕ) → pos 0 ≤ℤ step → 0 < count → beyond number n e ≡ false
      → any_beyond number n e step count ≡ beyond number n (e +ℤ pos (count - 1) *ℤ step)
  unfolding any_beyond
  last-tells (pos step) count h l b = by (beyond number n (place number n e step count (count - 1))) refl
    where
      by : (t : Bool) → beyond number n (place number n e step count (count - 1)) ≡ t → not (all_below (fine number n e step count) count) ≡ beyond number n (place number n e step count (count - 1))
      by true q = ap not (some-far number n e step count (count - 1) (omega arith) q) ∙ sym q
      by false q = ap not (all_near number n e step count b q) ∙ sym q
  last-tells (negsuc m) count h l b = absurd h.le

-- what COMPONENT and POSITION of one place say, of a component that is there
pub nine : {c r : ℕ} (b : Bool) → c ≤ 2 → r ≡ cond (ltb 2 c) 8 (cond b 9 0) → r ≡ cond b 9 0
nine {c} b h e = rw (le-ltb 2 c h) at e

pub yes-nine : {r : ℕ} (b : Bool) → r ≡ cond b 9 0 → (r ≡ 0 → ⊥) → b ≡ true
yes-nine true e h = refl
yes-nine false e h = absurd (h e)

pub no_nine : {r : ℕ} (b : Bool) → r ≡ cond b 9 0 → r ≡ 0 → b ≡ false
no_nine true e h = absurd (omega (arith, e, h))
no_nine false e h = refl
