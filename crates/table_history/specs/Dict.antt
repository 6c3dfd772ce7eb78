-- The dictionaries that a table stands for, one for each owner, and what calls do on them.
-- Assumes nothing.
use Rattle.std.specs.Prelude.{ℕ, zero, suc, ◌+◌, List, [], ◌∷◌, Bool, false, cond, ◌&&◌, ◌||◌, length, ltb, leb, eqb}
use Rattle.message_rows.specs.Message.{refusal}
use Rattle.table_slots.specs.Slots.{slots, most, is_owner, key, key_of, slot, held}
use Rattle.table.specs.Table.{owns}
use Rattle.table_history.specs.History.{Ask, store, find, remove, Calls}

-- ---- one owner's dictionary, without a limit: messages, one for each key

abbrev pub Dict : Type 0
Dict = List (List ℕ)

unfoldable pub stored_under : Dict → ℕ → List ℕ
stored_under [] k = []
stored_under (m ∷ d) k = cond (eqb (key_of m) k) m (stored_under d k)

unfoldable pub without : Dict → ℕ → Dict
without [] k = []
without (m ∷ d) k = cond (eqb (key_of m) k) (without d k) (m ∷ without d k)

unfoldable pub is_new : Dict → ℕ → Bool
is_new d k = eqb (length (stored_under d k)) 0

-- a key's number: 0 where the dictionary has it, else 17 NONE
unfoldable pub key_number : Dict → ℕ → ℕ → ℕ
key_number d s g = cond (ltb g 3) (cond (is_new d (key s g)) 17 0) 17

-- what it answers and shows, and what it is after that
unfoldable pub free_number : Dict → Ask → ℕ
free_number d (store m) = refusal m
free_number d (find s g) = key_number d s g
free_number d (remove s g) = key_number d s g

unfoldable pub free_shown : Dict → Ask → List ℕ
free_shown d (store m) = []
free_shown d (find s g) = cond (ltb g 3) (stored_under d (key s g)) []
free_shown d (remove s g) = []

unfoldable pub changed : Dict → Ask → Dict
changed d (store m) = m ∷ without d (key_of m)
changed d (find s g) = d
changed d (remove s g) = without d (key s g)

unfoldable pub free_after : Dict → Ask → Dict
free_after d a = cond (eqb (free_number d a) 0) (changed d a) d

-- ---- a dictionary for each owner, under the rule for FULL

abbrev pub Dicts : Type 0
Dicts = ℕ → Dict

unfoldable pub total : Dicts → ℕ
total ds = length (ds 1) + length (ds 2)

-- "the key is new to the caller and the caller holds 20 or no slot is free"
unfoldable pub full : Dicts → ℕ → Ask → Bool
full ds o (store m) = eqb (refusal m) 0 && (is_new (ds o) (key_of m) && (leb most (length (ds o)) || leb slots (total ds)))
full ds o (find s g) = false
full ds o (remove s g) = false

unfoldable pub dict_number : Dicts → ℕ → Ask → ℕ
dict_number ds o a = cond (is_owner o) (cond (full ds o a) 16 (free_number (ds o) a)) 21

unfoldable pub dict_shown : Dicts → ℕ → Ask → List ℕ
dict_shown ds o a = cond (is_owner o) (free_shown (ds o) a) []

-- a call that is answered 0 changes the caller's dictionary and no other
unfoldable pub changed_for : Dicts → ℕ → Ask → Dicts
changed_for ds o a p = cond (eqb o p) (changed (ds p) a) (ds p)

unfoldable pub dict_after : Dicts → ℕ → Ask → Dicts
dict_after ds o a = cond (eqb (dict_number ds o a) 0) (changed_for ds o a) ds

abbrev pub dictionaries : Calls Dicts
dictionaries = record { number = dict_number; shown = dict_shown; after = dict_after }

-- ---- what a table holds at first

-- what a table's first n slots hold for an owner
unfoldable pub entries_to : List ℕ → ℕ → ℕ → Dict
entries_to t o zero = []
entries_to t o (suc n) = cond (owns t o n) (held (slot t n) ∷ entries_to t o n) (entries_to t o n)

unfoldable pub entries : List ℕ → Dicts
entries t o = entries_to t o slots
