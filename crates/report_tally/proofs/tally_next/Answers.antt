-- `report_tally::tally_next` meets its contract: the code's tests are the definition's, and a tally that passes them takes one point more.
-- Assumes nothing.
use mathlib.Core.Path.{◌≡◌, ap, ◌∙◌}
use Prim.Native.Nat.{◌≤◌, ◌<◌}
use native.Mathlib.Omega.{arith}
use borrow.Author.Tests.{le-ltb, lt-leb}
use lib.IntN.{nat_abs}
use Rattle.arith.proofs.Back.{held}
use Rattle.arith.proofs.Machine.{is-back}
use Rattle.grid_counts.specs.declared.Counted.{Counted}
use Rattle.report_update.specs.declared.Tally.{Tally}
use Rattle.report_update.specs.Numbers.{points_in}
use Rattle.report_update.specs.Inner.{grown_by}
use Rattle.report_tally.specs.Next.{outcome_at, next_refusal, next_of}
use Rattle.report_tally.proofs.Sound.{outcome-sound}
use Rattle.report_tally.proofs.Room.{takes_one}
use Rattle.report_tally.proofs.tally_next.Goals as goal

pub returns : goal.returns
unfolding next_of next_refusal
returns c = let t : Tally = c.args.t in
    let known : c.args.component ≤ 2 = omega arith in
    let same : c.points_in-n.result ≡ points_in t = omega arith in
    let few : points_in t < 10000 = omega arith in
    let sum : c.unsigned_abs.result ≡ nat_abs t.sum = c.unsigned_abs.ensures.value ∙ ap nat_abs (held t.sum (omega arith)) in
    let near : nat_abs t.sum ≤ 100000000000 = omega arith in
    let o : Counted = outcome_at c.args.message.now c.args.component c.args.north c.args.east in
    let answer : c.part_at-o.result ≡ o = c.part_at-o.ensures ∙ (λ i. outcome_at c.args.message.now c.args.component (is-back c.ranges.north i) (is-back c.ranges.east i)) in
    let a = c.part_at-o.result in
    (λ i. record {
      refusal = 0;
      tally =
          (c.with_outcome.ensures
          ∙ (λ j. grown_by t a.refusal (held a.count (omega arith) j) (same j))
          ∙ (λ j. grown_by t (answer j).refusal (answer j).count (points_in t))
          ∙ takes_one t o (outcome-sound c.args.message.now c.args.component c.args.north c.args.east) few near) i;
    })
    ∙ simp (le-ltb 2 _ known, lt-leb 10000 (points_in t) few, le-ltb 100000000000 (nat_abs t.sum) near)
