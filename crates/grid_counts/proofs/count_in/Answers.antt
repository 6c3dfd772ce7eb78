-- `grid_counts::count_in` meets its contract: a mean past what a field holds is past the bounds of a count.
-- Assumes nothing.
use mathlib.Core.Path.{◌≡◌, ap, ◌∙◌}
use lib.IntN.{ℤ, pos, nat_abs, ◌*ℤ◌}
use native.Mathlib.Omega.{arith}
use Rattle.arith.proofs.Back.{held}
use Rattle.arith.proofs.Int.{abs-mul}
use Rattle.arith.proofs.Machine.{Num, lit, arg, mul, fits, is-back}
use Rattle.grid_cell.specs.Inner.{count_by}
use Rattle.grid_counts.specs.Counts.{node_factor, mean_factor}
use Rattle.grid_counts.proofs.Bounds.{past-none}
use Rattle.grid_counts.proofs.count_in.Goals as goal

pub returns-then-unsigned_abs-gt16384 : goal.returns-then-unsigned_abs-gt16384
returns-then-unsigned_abs-gt16384 c = let size : c.unsigned_abs.result ≡ nat_abs c.args.mean = c.unsigned_abs.ensures.value ∙ ap nat_abs (is-back c.ranges.mean) in
    let a = c.args in
    past-none (pos mean_factor *ℤ a.mean) (node_factor a.number a.component) a.n a.k
    (omega (arith, abs-mul (pos mean_factor) a.mean, size, c.if-unsigned_abs-gt16384.true))

pub returns : goal.returns
returns c = let size : c.unsigned_abs.result ≡ nat_abs c.args.mean = c.unsigned_abs.ensures.value ∙ ap nat_abs (is-back c.ranges.mean) in
    let means : Num = mul (lit 100 tt) (arg c.args.mean 16384 (omega (arith, size, c.if-unsigned_abs-gt16384.false)) tt) tt in
    let factor : c.factor_of-factor.result ≡ node_factor c.args.number c.args.component = c.factor_of-factor.ensures ∙ ap (λ (z : ℤ). node_factor z c.args.component) (is-back c.ranges.number) in
    let a = c.args in
    held c.count_by.result c.count_by.type_inv ∙ c.count_by.ensures ∙ (λ i. count_by (means.held i) (factor i) a.n a.k)

pub overflow_mul-mean : goal.overflow_mul-mean
overflow_mul-mean c =
    let size : c.unsigned_abs.result ≡ nat_abs c.args.mean = c.unsigned_abs.ensures.value ∙ ap nat_abs (is-back c.ranges.mean) in
    let means : Num = mul (lit 100 tt) (arg c.args.mean 16384 (omega (arith, size, c.if-unsigned_abs-gt16384.false)) tt) tt in
    fits means
