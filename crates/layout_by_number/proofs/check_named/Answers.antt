-- `layout_by_number::check_named` meets its contract.
-- Assumes nothing.
use Rattle.layout_by_number.proofs.check_named.Goals as goal

pub returns : goal.returns
returns c = rw (c.check_place_after.ensures, c.check_place_after-r.ensures, c.check_size-r.ensures)
