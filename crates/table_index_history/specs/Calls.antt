-- The exported calls on a table and its index: what they answer, show and leave.
-- Assumes nothing.
use Rattle.std.specs.Prelude.{ℕ, List, [], ◌∷◌, Bool, true, ◌&&◌, ◌≡◌, ltb, replicate}
use Rattle.table_index_search.specs.Index.{index_size}
use Rattle.table_indexed.specs.Indexed.{agrees_refusal, store_number, stored_table, stored_index, remove_number, removed_table, removed_index}
use Rattle.table_indexed.specs.Find.{find_number, part}
use Rattle.table_history.specs.History.{fresh, Ask, store, find, remove, Call, Calls}

-- a fresh index: 128 zero bytes
abbrev pub fresh_index : List ℕ
fresh_index = replicate index_size 0

-- the table and the index that calls work on
pub record Both : Type 0 where
  pub table : List ℕ
  pub index : List ℕ

-- the number that a call answers, the part that it shows, and what it leaves
unfoldable pub number : Both → ℕ → Ask → ℕ
number b o (store m) = store_number b.table b.index o m
number b o (find s g) = find_number b.table b.index o s g
number b o (remove s g) = remove_number b.table b.index o s g

unfoldable pub shown : Both → ℕ → Ask → List ℕ
shown b o (store m) = []
shown b o (find s g) = part b.table b.index o s g
shown b o (remove s g) = []

unfoldable pub after : Both → ℕ → Ask → Both
after b o (store m) = record { table = stored_table b.table b.index o m; index = stored_index b.table b.index o m }
after b o (find s g) = b
after b o (remove s g) = record { table = removed_table b.table b.index o s g; index = removed_index b.table b.index o s g }

abbrev pub indexed : Calls Both
indexed = record { number = number; shown = shown; after = after }

-- table and index agree
abbrev pub Agreed : Both → Type 0
Agreed b = agrees_refusal b.table b.index ≡ 0

-- a fresh table and a fresh index
abbrev pub fresh_both : Both
fresh_both = record { table = fresh; index = fresh_index }

-- the SIN that a call names is a byte
unfoldable pub byte_ask : Ask → Bool
byte_ask (store m) = true
byte_ask (find s g) = ltb s 256
byte_ask (remove s g) = ltb s 256

unfoldable pub byte_calls : List Call → Bool
byte_calls [] = true
byte_calls (c ∷ cs) = byte_ask c.ask && byte_calls cs
