-- `demands_grids::two_answers` meets its contract: the answers are those of the call, and demand 3 holds of each of their parts.
-- Assumes nothing.
use mathlib.Core.Path.{◌≡◌, ◌∙◌}
use Rattle.arith.proofs.Machine.{is-back}
use Rattle.grid_shifts.specs.Shift.{message_shifts}
use Rattle.demands_grids.proofs.Grids.{lipschitz-answers, parts_are}
use Rattle.demands_grids.proofs.two_answers.Goals as goal

pub returns : goal.returns
returns c = let one : c.shifts_at-first.result ≡ message_shifts c.args.message.now c.args.north1 c.args.east1 = c.shifts_at-first.ensures ∙ (λ i. message_shifts c.args.message.now (is-back c.ranges.north1 i) (is-back c.ranges.east1 i)) in
    let two : c.shifts_at-second.result ≡ message_shifts c.args.message.now c.args.north2 c.args.east2 = c.shifts_at-second.ensures ∙ (λ i. message_shifts c.args.message.now (is-back c.ranges.north2 i) (is-back c.ranges.east2 i)) in
    let a = c.args in
    let m = a.message.now in
    let p = parts_are m a.north1 a.east1 one in
    let q = parts_are m a.north2 a.east2 two in record { first = one; second = two; north = lipschitz-answers m 0 a.north1 a.east1 a.north2 a.east2 _ _ p.0 q.0; east = lipschitz-answers m 1 a.north1 a.east1 a.north2 a.east2 _ _ p.1 q.1; height = lipschitz-answers m 2 a.north1 a.east1 a.north2 a.east2 _ _ p.2 q.2 }
