-- The errors of the step, composed from those of its divisions: what each function computes lies about what the formula says.
-- Assumes nothing.
use mathlib.Core.Path.{◌≡◌, refl, ap}
use Prim.Native.Nat.{◌*◌, ◌^◌, ◌≤◌, ◌+◌}
use native.Mathlib.Omega.{arith}
use lib.IntN.{ℤ, pos, nat_abs, ◌+ℤ◌, ◌-ℤ◌, ◌*ℤ◌}
use lib.Signed.{quot_z}
use Rattle.arith.proofs.Int.{ring, at, nat, ◌⊞◌, ◌⊟◌, ◌⊠◌}
use Rattle.datum_formula.specs.Formula.{rotation, moved, About}
use Rattle.datum_formula.specs.Private.{rotated}
use Rattle.datum_formula.proofs.About.{exactly, compose, times, plus, less, widen, divided}

-- a rotation in radians over 10^13
pub radians-about : (r : ℤ) → About (10 ^ 11) (quot_z (r *ℤ pos 96962736 +ℤ quot_z (r *ℤ pos 221907) (pos 1000000)) (pos 100000)) (rotation r) (10 ^ 11 + 10 ^ 6)
radians-about r =
    widen
    (compose (divided (r *ℤ pos 96962736 +ℤ quot_z (r *ℤ pos 221907) (pos 1000000)) 100000 (omega arith))
    (plus (exactly 1000000 (r *ℤ pos 96962736)) (divided (r *ℤ pos 221907) 1000000 (omega arith))))
    (10 ^ 11 + 10 ^ 6)
    (ring (nat 1000000 ⊠ (at r ⊠ nat 96962736) ⊞ at r ⊠ nat 221907) (nat 96962736221907 ⊠ at r) (omega arith)) tt

-- a rotation times a coordinate v, which is taken apart at any h
module _ (a r v h : ℤ) (p : About (10 ^ 11) a (rotation r) (10 ^ 11 + 10 ^ 6)) (k : nat_abs v ≤ 10 ^ 11) where
  abbrev low : ℤ
  low = v -ℤ h *ℤ pos 1000000

  parts : About 1000000 (a *ℤ h +ℤ quot_z (a *ℤ low) (pos 1000000)) (a *ℤ v) 1000000
  parts =
      widen (plus (exactly 1000000 (a *ℤ h)) (divided (a *ℤ low) 1000000 (omega arith))) 1000000
      (ring (nat 1000000 ⊠ (at a ⊠ at h) ⊞ at a ⊠ (at v ⊟ at h ⊠ nat 1000000)) (at a ⊠ at v) (omega arith)) tt

  pub rotated-by-about : About (10 ^ 17) (a *ℤ h +ℤ quot_z (a *ℤ low) (pos 1000000)) (rotation r *ℤ v) (10 ^ 22 + 2 * 10 ^ 17)
  rotated-by-about = widen (compose parts (times p v k)) (10 ^ 22 + 2 * 10 ^ 17) refl tt

-- one coordinate: t and u are the two others by their rotations
module _
    (own a b ra rb ds d t u : ℤ)
    (p : About (10 ^ 17) t (rotation ra *ℤ a) (10 ^ 22 + 2 * 10 ^ 17))
    (q : About (10 ^ 17) u (rotation rb *ℤ b) (10 ^ 22 + 2 * 10 ^ 17))
    (k : nat_abs ds ≤ 2 ^ 24)
  where
    abbrev whole : ℤ
    whole = own *ℤ pos 10000000 +ℤ t -ℤ u

    abbrev scale : ℤ
    scale = quot_z (quot_z whole (pos 10000000) *ℤ ds) (pos 10000)

    -- R * X_S
    rotated-about : About (10 ^ 17) whole (rotated own a b ra rb) (2 * (10 ^ 22 + 2 * 10 ^ 17))
    rotated-about =
        widen (less (plus (exactly (10 ^ 17) (own *ℤ pos 10000000)) p) q) (2 * (10 ^ 22 + 2 * 10 ^ 17))
        (ap (λ (z : ℤ). z +ℤ rotation ra *ℤ a -ℤ rotation rb *ℤ b) (ring (nat (10 ^ 17) ⊠ (at own ⊠ nat 10000000)) (nat (10 ^ 24) ⊠ at own) (omega arith))) tt

    -- dS * R * X_S
    scale-about : About (10 ^ 28) scale (rotated own a b ra rb *ℤ ds) (2 * 10 ^ 31)
    scale-about =
        widen (compose (divided (quot_z whole (pos 10000000) *ℤ ds) 10000 (omega arith))
        (times (compose (divided whole 10000000 (omega arith)) rotated-about) ds k)) (2 * 10 ^ 31) refl tt

    -- M * R * X_S + d
    pub moved-about : About (10 ^ 28) (whole +ℤ scale +ℤ d *ℤ pos 100000000) (moved ds (rotated own a b ra rb) d) (21 * 10 ^ 32)
    unfolding moved
    moved-about =
        widen
        (plus (plus (compose rotated-about (exactly (10 ^ 11) (rotated own a b ra rb))) scale-about) (exactly (10 ^ 28) (d *ℤ pos 100000000)))
        (21 * 10 ^ 32)
        (together (rotated own a b ra rb)) tt
      where
        together : (m : ℤ) → pos (10 ^ 11) *ℤ m +ℤ m *ℤ ds +ℤ pos (10 ^ 28) *ℤ (d *ℤ pos 100000000) ≡ (pos (10 ^ 11) +ℤ ds) *ℤ m +ℤ pos (10 * 10 ^ 35) *ℤ d
        together m =
            ring (nat (10 ^ 11) ⊠ at m ⊞ at m ⊠ at ds ⊞ nat (10 ^ 28) ⊠ (at d ⊠ nat 100000000)) ((nat (10 ^ 11) ⊞ at ds) ⊠ at m ⊞ nat (10 * 10 ^ 35) ⊠ at d) (omega arith)

    -- the nearest whole number
    pub answer-about : (answer : ℤ) → About 10000000 answer (whole +ℤ scale +ℤ d *ℤ pos 100000000) 5000000 → About (10 ^ 35) answer (moved ds (rotated own a b ra rb) d) (521 * 10 ^ 32)
    answer-about answer n = widen (compose n moved-about) (521 * 10 ^ 32) refl tt
