-- `grid_component::count_at` meets its contract.
-- Assumes nothing.
use native.Mathlib.Omega.{arith}
use mathlib.Core.Path.{◌≡◌, sym, ap, ◌∙◌}
use borrow.Author.Tests.{eq-eqb, ne_eqb}
use Rattle.arith.proofs.Back.{held}
use Rattle.arith.proofs.Machine.{is-back}
use Rattle.grid_place.specs.Inner.{held_place}
use Rattle.grid_place.specs.declared.Located.{Located}
use Rattle.grid_counts.specs.Inner.{cell_count}
use Rattle.grid_component.specs.Inner.{counted_by}
use Rattle.grid_component.proofs.count_at.Goals as goal

pub returns-then-kept-ne0 : goal.returns-then-kept-ne0
unfolding counted_by
returns-then-kept-ne0 c = c.refused.ensures ∙ rw (ne_eqb _ 0 c.if-kept-ne0.true)

pub returns-then-p-ne0 : goal.returns-then-p-ne0
unfolding counted_by
returns-then-p-ne0 c = let p : Located = held_place c.args.kept.settings c.args.component c.args.north c.args.east in
    let kept : c.args.kept.refusal ≡ 0 = c.if-kept-ne0.false in
    let place : c.locate-p.result ≡ p = c.locate-p.ensures ∙ (λ i. held_place c.args.kept.settings c.args.component (is-back c.ranges.north i) (is-back c.ranges.east i)) in
    let o : p.refusal ≡ 0 → ⊥ = λ z. c.if-p-ne0.true (ap (λ (q : Located). q.refusal) place ∙ z) in
    c.refused-then-p-ne0.ensures ∙ rw (eq-eqb _ 0 kept, ne_eqb p.refusal 0 o, ← place)

pub returns : goal.returns
unfolding counted_by
returns c = let a = c.args in
    let p : Located = held_place a.kept.settings a.component a.north a.east in
    let kept : a.kept.refusal ≡ 0 = c.if-kept-ne0.false in
    let place : c.locate-p.result ≡ p = c.locate-p.ensures ∙ (λ i. held_place a.kept.settings a.component (is-back c.ranges.north i) (is-back c.ranges.east i)) in
    let none : p.refusal ≡ 0 = sym (ap (λ (q : Located). q.refusal) place) ∙ c.if-p-ne0.false in
    c.cell_count.ensures
    ∙ rw (eq-eqb _ 0 kept, eq-eqb p.refusal 0 none, ← place)
    (λ i. cell_count (held a.kept.settings.number (omega arith) i) a.component (c.mean_at-mean.ensures i) (c.nodes_of-n.ensures i) (c.weights_in-k.ensures i))
