-- `grid_cell::nearest_to` meets its contract: the rounded size with the sign of the sum.
-- Assumes nothing.
use mathlib.Core.Path.{◌≡◌, sym, ap, ◌∙◌}
use Prim.Native.Nat.{ℕ, ◌+◌, ◌*◌, ◌/◌, ◌^◌, ◌<◌}
use lib.Signed.{mag}
use native.Mathlib.Omega.{arith}
use lib.IntN.{ℤ, nat_abs}
use borrow.Author.Rules.{rules}
use mir.Syntax.{w64}
use mir.Val.{SFits, to_z, of_z}
use Rattle.arith.proofs.Back.{held}
use Rattle.arith.proofs.Machine.{is-back}
use Rattle.grid_bilinear.specs.Bilinear.{nearest_whole}
use Rattle.grid_cell.specs.Private.{with_sign}
use Rattle.grid_cell.proofs.Sum.{nearest-size}
use Rattle.grid_cell.proofs.nearest_to.Goals as goal

-- the rounded size with the sign of the sum
back : (sum : ℤ) (area : ℕ) → SFits w64 sum → {r : ℤ} {n k : ℕ} → n ≡ nat_abs sum → mag r < 2 ^ 63 → r ≡ with_sign (to_z w64 (of_z w64 sum)) k → k ≡ (2 * n + area) / (2 * area) → to_z w64 (of_z w64 r) ≡ nearest_whole sum area
back sum area f {r} {n} {k} s o e q =
    held r o ∙ e ∙ (λ i. with_sign (is-back f i) (q i)) ∙ ap (λ (m : ℕ). with_sign sum ((2 * m + area) / (2 * area))) s ∙ sym (nearest-size sum area)

pub rounded-requires : goal.rounded-requires
rounded-requires c = let size : c.magnitude-size.result ≡ nat_abs c.args.sum = c.magnitude-size.ensures ∙ ap nat_abs (is-back c.ranges.sum) in
    (omega (arith, size, c.requires.size), c.requires.some, c.requires.light)

pub with_sign-requires : goal.with_sign-requires
with_sign-requires c = c.rounded.ensures.1

pub returns : goal.returns
returns c = let size : c.magnitude-size.result ≡ nat_abs c.args.sum = c.magnitude-size.ensures ∙ ap nat_abs (is-back c.ranges.sum) in
    let a = c.args in
    back a.sum a.area c.ranges.sum size c.with_sign.type_inv c.with_sign.ensures c.rounded.ensures.0
