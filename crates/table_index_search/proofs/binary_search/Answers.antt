-- `table_index_search::binary_search` meets its contract: what the rule gives among the entries left is what it gives among all, and each round leaves fewer.
-- Assumes nothing.
use Prim.Native.Nat.{◌+◌, ◌-◌}
use native.Mathlib.Omega.{arith}
use mathlib.Core.Path.{refl, sym, ap, ◌∙◌}
use Rattle.table_index_search.specs.Index.{entries}
use Rattle.table_index_search.specs.Search.{met_after}
use Rattle.table_index_search.proofs.Rounds.{probe-none, round-met, round-behind, round-before}
use Rattle.table_index_search.proofs.binary_search.Goals as goal

pub loop-lo-init : goal.loop-lo-init
loop-lo-init c = (omega arith, (omega arith, refl))

pub returns-then-is_key : goal.returns-then-is_key
returns-then-is_key c = let l = c.loop-lo in
    let a = c.args in
    let s = c.loop-lo-test.true in
    ap (λ k. met_after k (l.probes + 1)) c.byte_at.ensures
    ∙ sym (l.invariant.1.1 ∙ round-met a.index.now a.key l.lo l.end l.probes s (omega arith) (sym c.is_key.ensures ∙ c.if-is_key.true))

pub loop-lo-preserved-then-is_below : goal.loop-lo-preserved-then-is_below
loop-lo-preserved-then-is_below c = let l = c.loop-lo in
    let a = c.args in
    let s = c.loop-lo-test.true in
    (omega arith, (omega arith, l.invariant.1.1 ∙ round-behind a.index.now a.key l.lo l.end l.probes s (omega arith) (sym c.is_key.ensures ∙ c.if-is_key.false) (sym c.is_below.ensures ∙ c.if-is_below.true)))

pub loop-lo-preserved : goal.loop-lo-preserved
loop-lo-preserved c = let l = c.loop-lo in
    let a = c.args in
    let s = c.loop-lo-test.true in
    (omega arith, (omega arith, l.invariant.1.1 ∙ round-before a.index.now a.key l.lo l.end l.probes s (omega arith) (sym c.is_key.ensures ∙ c.if-is_key.false) (sym c.is_below.ensures ∙ c.if-is_below.false)))

pub returns : goal.returns
returns c = let l = c.loop-lo in
    let a = c.args in
    sym (l.invariant.1.1 ∙ probe-none a.index.now a.key (entries - l.probes) l.lo l.end l.probes c.loop-lo-test.false)
