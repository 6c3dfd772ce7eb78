-- Nodes within B have a weighted sum within B times the cell's area, and a nearest number within B.
-- Assumes nothing.
use mathlib.Core.Path.{◌≡◌, refl, sym, subst}
use Prim.Native.Nat.{ℕ, suc, ◌+◌, ◌*◌, ◌-◌, ◌/◌, ◌≤◌, ◌<◌}
use native.Mathlib.Nat.{div-lt_iff_lt-mul, sub-add_cancel}
use native.Mathlib.Omega.{arith}
use lib.IntN.{ℤ, pos, negsuc, nat_abs}
use Rattle.arith.proofs.Int.{abs_neg}
use Rattle.grid_bilinear.specs.Bilinear.{weighted, nearest_whole}
use Rattle.grid_bilinear.proofs.Line.{mix, mix-size}
use Rattle.grid_bilinear.proofs.Cells.{weighted-mix}

mix-within : (d r : ℕ) (a b : ℤ) (e : ℕ) → r ≤ d → nat_abs a ≤ e → nat_abs b ≤ e → nat_abs (mix (d - r) r a b) ≤ d * e
mix-within d r a b e h p q = subst (λ m. nat_abs (mix (d - r) r a b) ≤ m * e) (sub-add_cancel h) (mix-size (d - r) r a b e p q)

pub weighted-bound : (H W y x : ℕ) (sw se nw ne : ℤ) (B : ℕ) → y ≤ H → x ≤ W → nat_abs sw ≤ B → nat_abs se ≤ B → nat_abs nw ≤ B → nat_abs ne ≤ B →
    nat_abs (weighted H W y x sw se nw ne) ≤ B * (H * W)
weighted-bound H W y x sw se nw ne B hy hx h₁ h₂ h₃ h₄ =
    subst (λ z. nat_abs z ≤ B * (H * W)) (sym (weighted-mix H W y x sw se nw ne))
    (omega (arith, mix-within H y (mix (W - x) x sw se) (mix (W - x) x nw ne) (W * B) hy (mix-within W x sw se B hx h₁ h₂) (mix-within W x nw ne B hx h₃ h₄)))

abs-nearest : (s : ℤ) (d : ℕ) → nat_abs (nearest_whole s d) ≡ (2 * nat_abs s + d) / (2 * d)
unfolding nearest_whole
abs-nearest (pos n) d = refl
abs-nearest (negsuc n) d = abs_neg (pos ((2 * suc n + d) / (2 * d)))

pub nearest-bound : (s : ℤ) (d B : ℕ) → 0 < d → nat_abs s ≤ B * d → nat_abs (nearest_whole s d) ≤ B
nearest-bound s d B h k =
    let two : 0 < 2 * d = omega arith in
    let most : 2 * nat_abs s + d < (B + 1) * (2 * d) = omega arith in
    omega (arith, abs-nearest s d, (div-lt_iff_lt-mul two).1 most)
