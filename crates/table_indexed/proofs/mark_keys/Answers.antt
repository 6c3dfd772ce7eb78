-- `table_indexed::mark_keys` meets its contract: each place has the key of its mark.
-- Assumes nothing.
use Rattle.std.proofs.Common.{rules}
use Rattle.arith.proofs.Lists.{is-up_to}
use Rattle.table_slots.specs.Slots.{slots}
use Rattle.table_indexed.specs.Private.{mark_key_at}
use Rattle.table_indexed.proofs.mark_keys.Goals as goal

pub returns : goal.returns
unfolding mark_key_at
returns c = is-up_to (mark_key_at c.args.row.now) slots 0 c.map.result c.map.ensures.items.long
    (λ i h. let k = (c.map.ensures.items.at i 0 0 h).2 in search rules)
