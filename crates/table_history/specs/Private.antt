-- What private functions and proofs need.
-- Assumes nothing.
use Rattle.std.specs.Prelude.{ℕ, List, []}
use Rattle.table.specs.Table.{store_refusal, store_table, find_refusal, remove_table}
use Rattle.table.specs.Inner.{found}
use Rattle.table_history.specs.History.{Ask, store, find, remove, Calls}

-- the number that a call answers, the part that it shows, and the table after it
unfoldable pub number : List ℕ → ℕ → Ask → ℕ
number t o (store m) = store_refusal t o m
number t o (find s g) = find_refusal t o s g
number t o (remove s g) = find_refusal t o s g

unfoldable pub shown : List ℕ → ℕ → Ask → List ℕ
shown t o (store m) = []
shown t o (find s g) = found t o s g
shown t o (remove s g) = []

unfoldable pub after : List ℕ → ℕ → Ask → List ℕ
after t o (store m) = store_table t o m
after t o (find s g) = t
after t o (remove s g) = remove_table t o s g

abbrev pub walk : Calls (List ℕ)
walk = record { number = number; shown = shown; after = after }
