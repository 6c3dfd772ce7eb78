-- `table_slots::zeros` meets its contract: the greatest byte is 0 where all are.
-- Assumes nothing.
use Rattle.std.proofs.Common.{rules, ◌≡◌, ◌∙◌, ap, eqb, max, fold, ℕ}
use Rattle.table_slots.proofs.Slot.{greatest-zero}
use Rattle.table_slots.proofs.zeros.Goals as goal

pub returns : goal.returns
returns c = let s = c.args.s.now in
    let e : c.fold.result ≡ fold max 0 s = search rules in
    ap (λ (n : ℕ). eqb n 0) e ∙ greatest-zero s
