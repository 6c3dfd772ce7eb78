-- What private functions and proofs need.
-- Assumes nothing.
use Rattle.std.specs.Prelude.{ℕ, suc, ◌+◌, ◌-◌, ◌*◌, ◌/◌, ◌%◌, cond, List, get_or, ltb, eqb}
use Rattle.message_rows.specs.Message.{header}
use Rattle.table_slots.specs.Slots.{slots, slot_size, group_of, key, joined, slot}
use Rattle.table_slots.specs.Inner.{mark, mark_or_free}
use Rattle.table_index.specs.Change.{inserted}
use Rattle.table_indexed.specs.Indexed.{entry_key}
use Rattle.table_indexed.specs.declared.Found.{Found}

-- the key of a slot with the mark g: a tag is one more than (SIN * 3 + group) * 3 + owner
unfoldable pub mark_key : ℕ → ℕ
mark_key g = cond (eqb g 0) 0 ((g - 1) % 3 * 65536 + (g - 1) / 9 % 256 * 256 + (g - 1) / 3 % 3)

unfoldable pub mark_key_at : List ℕ → ℕ → ℕ
mark_key_at row i = mark_key (get_or row i 0)

-- the index with the entry of an owner's message, whose SIN and group are s and g
unfoldable pub entry_in : List ℕ → List ℕ → ℕ → ℕ → ℕ → List ℕ
entry_in row x o s g = inserted x (entry_key o s g) (mark_or_free row (suc (joined o (key s g))) 0)

unfoldable pub entry_added : List ℕ → List ℕ → ℕ → List ℕ → List ℕ
entry_added row x o m = entry_in row x o (header m).sin (group_of (header m).number)

-- zeros with a refusal
abbrev pub missing : ℕ → Found
missing n = record { refusal = n; at = 0; length = 0; probes = 0 }

-- slot i where it is one of the table's and has the mark g, else 22 INDEX
unfoldable pub in_slot : List ℕ → ℕ → ℕ → ℕ → Found
in_slot t i g n =
    cond (ltb i slots) (cond (eqb (mark (slot t i)) g) (record { refusal = 0; at = i * slot_size + 2; length = get_or (slot t i) 1 0; probes = n }) (missing 22)) (missing 22)
