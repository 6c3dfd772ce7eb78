-- `record_rows::pair_at` meets its contract: each number is the one that the definition names, and both are behind the end where the first is.
-- Assumes nothing.
use mathlib.Core.Path.{sym, ap, ◌∙◌}
use native.Mathlib.Omega.{arith}
use Prim.Native.Nat.{◌+◌}
use Rattle.arith.proofs.Back.{held}
use Rattle.layout.specs.Layout.{value_in}
use Rattle.record_rows.specs.Numbers.{pair_at}
use Rattle.record_rows.proofs.Rows.{says-behind-values}
use Rattle.record_rows.proofs.pair_at.Goals as goal

pub returns-then-k-values : goal.returns-then-k-values
unfolding pair_at
returns-then-k-values c = let a = c.args in
    λ i. record {
      horizontal = sym (ap value_in (says-behind-values a.values.now a.present.now a.k c.if-k-values.true)) i;
      vertical = sym (ap value_in (says-behind-values a.values.now a.present.now (a.k + 1) (omega (arith, c.if-k-values.true)))) i;
    }

pub returns : goal.returns
unfolding pair_at
returns c = λ i. record {
  horizontal = (held c.number_at.result c.number_at.type_inv ∙ c.number_at.ensures) i;
  vertical = (held c.number_at-2.result c.number_at-2.type_inv ∙ c.number_at-2.ensures) i;
}
