-- `record_transformation_rows::named_row` meets its contract: one part behind another, or none.
-- Assumes nothing.
use native.Mathlib.Omega.{arith}
use Rattle.arith.specs.Inner.{padded}
use Rattle.arith.proofs.Order.{is}
use Rattle.arith.proofs.Back.{held}
use Rattle.record_rows.specs.Numbers.{values_of, present_of}
use Rattle.record_rows.specs.Inner.{present_padded}
use Rattle.record_rows.proofs.Appends.{appends, behind, same_row, same_size, none}
use Rattle.record_transformations.specs.Private.{names}
use Rattle.record_transformation_rows.proofs.Appends.{good-lengths, names-most, names-there, answer}
use Rattle.record_transformation_rows.proofs.named_row.Goals as goal

pub returns-then-not-good_names : goal.returns-then-not-good_names
returns-then-not-good_names c = none _ _ _ c.no_numbers.ensures (is c.good_names.ensures (c.if-not-good_names.true))

pub append_names-a-requires : goal.append_names-a-requires
append_names-a-requires c = let a = c.args in
    let l = good-lengths a.source a.target (is c.good_names.ensures (c.if-not-good_names.false)) in
    (l.0, (l.1, omega arith))

pub returns : goal.returns
unfolding padded present_padded
returns c = let a = c.args in
    let g = is c.good_names.ensures (c.if-not-good_names.false) in
    let l = good-lengths a.source a.target g in
    let k = same_row (λ i. values_of (names (held a.number c.ranges.number.sfits i) a.source a.target)) c.append_names-a.ensures in
    let m = names-most a.source a.target l.0 l.1 k in
    let b = appends (omega (arith, m, same_size k, c.requires)) c.append-b.ensures.answer c.append-b.ensures.output in
    let count = appends (omega (arith, m, same_size k, same_size b, b.place, c.requires)) c.append-count.ensures.answer c.append-count.ensures.output in
    let p = names-there a.source a.target l.0 l.1 k in
    let q = appends (omega (arith, m, c.requires)) c.append-k.ensures.answer c.append-k.ensures.output in
    let r = appends (omega (arith, m, same_size q, q.place, c.requires)) c.append.ensures.answer c.append.ensures.output in
    answer _ g
    (behind _ _ (behind (values_of (names a.number a.source a.target)) _ k b) count)
    (behind _ _ (behind (present_of (names a.number a.source a.target)) _ p q) r)
