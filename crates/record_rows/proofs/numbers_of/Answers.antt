-- `record_rows::numbers_of` meets its contract: none for different counts or too many places, else both buffers at the front of 96 places.
-- Assumes nothing.
use Rattle.std.proofs.Common.{◌∙◌, length, eq-eqb, le-leb}
use Rattle.arith.specs.Inner.{padded}
use Rattle.record_rows.specs.Inner.{present_padded}
use Rattle.record_rows.proofs.Appends.{all-good}
use Rattle.record_rows.proofs.numbers_of.Goals as goal

pub returns : goal.returns
unfolding padded present_padded
returns c = let a = c.args in
    let z = a.values.now in
    let b = a.present.now in
    all-good z b c.store-count.ensures c.store.ensures
    ∙ rw (eq-eqb (length z) (length b) c.if-values-present.false, le-leb (length z) 96 c.if-values-gt96.false)
