-- `report_update::with_answered` meets its contract: the sum fits, and each number is what the function asked for it ensures.
-- Assumes nothing.
use mathlib.Core.Path.{◌≡◌, ◌∙◌}
use mathlib.Core.Bool.{cond, ◌||◌}
use Prim.Native.Nat.{◌+◌}
use native.Mathlib.Omega.{arith}
use lib.Dec.{eqb}
use lib.Signed.{lt_z}
use mir.Syntax.{w64}
use mir.Val.{to_z, of_z}
use Rattle.arith.proofs.Machine.{Num, arg, add, fits}
use Rattle.report_update.specs.declared.Tally.{Tally}
use Rattle.report_update.specs.Numbers.{below, above}
use Rattle.report_update.specs.Update.{with_answered, is_new}
use Rattle.arith.proofs.Back.{held}
use Rattle.report_update.proofs.with_answered.Goals as goal

pub overflow_add-result-2 : goal.overflow_add-result-2
overflow_add-result-2 c = let count : Num = arg c.args.count 10000000 c.requires.2 tt in
    let sum : Num = add (arg c.args.t.sum 100000000000 c.requires.1 tt) count tt in
    fits sum

pub returns : goal.returns
unfolding with_answered
returns c = let count : Num = arg c.args.count 10000000 c.requires.2 tt in
    let sum : Num = add (arg c.args.t.sum 100000000000 c.requires.1 tt) count tt in
    let t : Tally = c.args.t in
    let z : to_z w64 (of_z w64 c.args.count) ≡ c.args.count = count.held in
    let smallest : to_z w64 (of_z w64 t.smallest) ≡ t.smallest = held t.smallest (omega arith) in
    let greatest : to_z w64 (of_z w64 t.greatest) ≡ t.greatest = held t.greatest (omega arith) in
    let low : c.is_new-low.result ≡ is_new below t c.args.count t.smallest = c.is_new-low.ensures ∙ (λ i. eqb t.answered 0 || lt_z (z i) (smallest i)) in
    let high : c.is_new-high.result ≡ is_new above t c.args.count t.greatest = c.is_new-high.ensures ∙ (λ i. eqb t.answered 0 || lt_z (greatest i) (z i)) in
    let k = c.args.place in
    λ i. record {
      answered = t.answered + 1;
      refused = t.refused;
      smallest = (held c.chosen-smallest.result c.chosen-smallest.type_inv ∙ c.chosen-smallest.ensures ∙ (λ j. cond (low j) (z j) (smallest j))) i;
      greatest = (held c.chosen-greatest.result c.chosen-greatest.type_inv ∙ c.chosen-greatest.ensures ∙ (λ j. cond (high j) (z j) (greatest j))) i;
      smallest_place = (c.chosen-smallest_place.ensures ∙ (λ j. cond (low j) k t.smallest_place)) i;
      greatest_place = (c.chosen-greatest_place.ensures ∙ (λ j. cond (high j) k t.greatest_place)) i;
      sum = sum.held i;
    }
