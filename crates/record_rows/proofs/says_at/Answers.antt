-- `record_rows::says_at` meets its contract: two ways out behind an end, and one at a place of both buffers.
-- Assumes nothing.
use mathlib.Core.Path.{sym, ap, ◌∙◌}
use native.Mathlib.Omega.{arith}
use lib.IntN.{ℤ}
use lib.ListN.{get_or}
use Rattle.arith.specs.Lists.{at}
use Rattle.arith.proofs.Back.{held}
use Rattle.layout.specs.Layout.{reading_in}
use Rattle.record_rows.proofs.Rows.{says_both, says-behind-values, says-behind-bytes}
use Rattle.record_rows.proofs.says_at.Goals as goal

pub returns-then-values-k : goal.returns-then-values-k
returns-then-values-k c = let a = c.args in sym (says-behind-values a.values.now a.present.now a.k (omega (arith, c.if-values-k.true)))

pub returns-then-present-k : goal.returns-then-present-k
returns-then-present-k c = let a = c.args in sym (says-behind-bytes a.values.now a.present.now a.k (omega (arith, c.if-present-k.true)))

pub returns : goal.returns
returns c = let a = c.args in
    let z = a.values.now in
    let b = a.present.now in
    c.reading_in.ensures
    ∙ ap (λ (x : ℤ). reading_in x (get_or b a.k 0)) (held (at z a.k) c.reading_in-arg-1.given)
    ∙ sym (says_both z b a.k (omega arith) (omega arith))
