-- `layout::check` meets its contract.
-- Assumes nothing.
use native.Mathlib.Omega.{arith}
use Rattle.layout.proofs.Loop.{total-most}
use Rattle.layout.proofs.check.Goals as goal

pub overflow_add-n : goal.overflow_add-n
overflow_add-n c = omega (arith, total-most c.args.layout.now, c.total_bits-n.ensures)

pub fill_is_zero-requires : goal.fill_is_zero-requires
fill_is_zero-requires c = let m = total-most c.args.layout.now in
    let e = c.total_bits-n.ensures in
    (omega arith, (omega arith, omega arith))
