-- `table_index_search::search` meets its contract: the rule in an index of the right size, nothing in another.
-- Assumes nothing.
use mathlib.Core.Path.{sym, ap, ◌∙◌}
use lib.ListN.{length}
use Rattle.table_index_search.specs.Search.{searched}
use Rattle.table_index_search.proofs.Rounds.{searched-sized, searched-other}
use Rattle.table_index_search.proofs.search.Goals as goal

pub returns-in_default : goal.returns-in_default
returns-in_default c = sym (searched-other _ _ c.in_default.ensures.1)

pub returns : goal.returns
returns c = let w = c.in-Ok.ensures.1 in
    c.binary_search.ensures ∙ sym (searched-sized _ c.args.key (ap length w.same ∙ w.long)) ∙ ap (λ x. searched x c.args.key) w.same
