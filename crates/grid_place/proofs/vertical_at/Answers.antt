-- `grid_place::vertical_at` meets its contract.
-- Assumes nothing.
use mathlib.Core.Path.{◌≡◌, sym, ◌∙◌}
use Rattle.arith.specs.First.{first}
use Rattle.arith.proofs.Machine.{is-back}
use Rattle.grid_refusals.specs.Refusals.{field_tests}
use Rattle.grid_place.proofs.Places.{early-out, same_place}
use Rattle.grid_place.proofs.vertical_at.Goals as goal

pub returns-then-early-ne0 : goal.returns-then-early-ne0
returns-then-early-ne0 c = let early : c.outcome_number-early.result ≡ first (field_tests c.args.f 2 c.args.north c.args.east) = (c.outcome_number-early.ensures ∙ c.early_refusal.ensures) ∙ (λ i. first (field_tests c.args.f 2 (is-back c.ranges.north i) (is-back c.ranges.east i))) in
    let a = c.args in
    c.no_place.ensures ∙ early-out a.f 2 a.north a.east early c.if-early-ne0.true

pub returns : goal.returns
returns c = let early : c.outcome_number-early.result ≡ first (field_tests c.args.f 2 c.args.north c.args.east) = (c.outcome_number-early.ensures ∙ c.early_refusal.ensures) ∙ (λ i. first (field_tests c.args.f 2 (is-back c.ranges.north i) (is-back c.ranges.east i))) in
    let a = c.args in
    c.requires.1 ∙ same_place a.f a.north a.east 0 2 c.requires.0 (sym early ∙ c.if-early-ne0.false)
