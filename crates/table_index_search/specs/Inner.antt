-- What only promises between crates name.
-- Assumes nothing.
use Rattle.std.specs.Prelude.{ℕ, cond, List, Result, Ok, Err, length, eqb}
use Rattle.table_index_search.specs.Index.{entries, index_size}
use Rattle.table_index_search.specs.Place.{key_place, has_key}

-- where the key stands, else where it belongs; an index of another size has no key
unfoldable pub placed : List ℕ → ℕ → Result ℕ ℕ
placed x key = cond (eqb (length x) index_size) (cond (has_key x key) (Ok (key_place x key)) (Err (key_place x key))) (Err entries)
