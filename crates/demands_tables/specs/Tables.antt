-- The demands on the table and request A7, in the papers' words, as statements of the exported calls: a history is any list of store, find and remove calls by owner 1, owner 2 and owners that are none, each naming a SIN that is a byte.
-- What a call answers, shows and leaves is `indexed`, made of `store_number`, `stored_table`, `stored_index`, `find_number`, `part` and the like, with which the exported promises are equations.
-- Assumes nothing.
use Rattle.std.specs.Prelude.{ℕ, ◌+◌, ◌*◌, ◌≤◌, ◌<◌, ◌≡◌, true, false, cond, ◌&&◌, ◌||◌, List, [], leb, eqb, length}
use Rattle.message_rows.specs.Message.{refusal, number_of, sin_of}
use Rattle.table_slots.specs.Slots.{slots, message_size, slot_size, is_owner, group_of, key, slot, owner_at}
use Rattle.table.specs.Table.{holding, used_slots}
use Rattle.table_history.specs.History.{fresh, Ask, store, Call, after_all, replies, log_of, last_of}
use Rattle.table_history.specs.Dict.{dictionaries, entries}
use Rattle.table_indexed.specs.Find.{find_number, part, part_at, part_length}
use Rattle.table_index_history.specs.Calls.{fresh_index, fresh_both, Both, Agreed, number, shown, after, indexed, byte_ask, byte_calls}

-- ---- demands 1 and 2, for each owner, where table and index agree, which they do after any history (`AgreementKept`)

-- every number and every shown byte equals that of a dictionary kept for each owner under the rule for FULL; what a well-formed table holds at first counts as stored
abbrev pub LikeADictionary : Type 0
LikeADictionary =
    (b : Both) → Agreed b → (cs : List Call) → byte_calls cs ≡ true → replies indexed b cs ≡ replies dictionaries (entries b.table) cs

-- find gives the message m, or NONE where m is empty
pub record Finds (b : Both) (owner sin group : ℕ) (m : List ℕ) : Type 0 where
  pub shown : part b.table b.index owner sin group ≡ m
  pub number : find_number b.table b.index owner sin group ≡ cond (eqb (length m) 0) 17 0

-- "the table gives back what was last stored under a key and not removed since", read for each owner
abbrev pub LastStored : Type 0
LastStored =
    (b : Both) → Agreed b → (cs : List Call) → byte_calls cs ≡ true → (owner sin group : ℕ) → is_owner owner ≡ true → sin < 256 → group < 3
    → Finds (after_all indexed b cs) owner sin group (last_of owner (key sin group) (part b.table b.index owner sin group) (log_of indexed b cs))

-- "group not 0 to 2" is NONE
abbrev pub NoGroup : Type 0
NoGroup = (b : Both) → Agreed b → (owner sin group : ℕ) → is_owner owner ≡ true → sin < 256 → 3 ≤ group → Finds b owner sin group []

-- "the table is 4,224 bytes", the index 128: as many zero bytes agree and hold nothing, so there is a table to begin with
pub record ZeroBytes : Type 0 where
  pub table : length fresh ≡ 4224
  pub index : length fresh_index ≡ 128
  pub agreed : Agreed fresh_both
  pub empty : (owner : ℕ) → is_owner owner ≡ true → entries fresh owner ≡ []

-- a refused call changes no byte of either, whatever they are
abbrev pub RefusedKeeps : Type 0
RefusedKeeps = (b : Both) (owner : ℕ) (a : Ask) → (number b owner a ≡ 0 → ⊥) → after b owner a ≡ b

-- ---- request A7

-- "21 OWNER for an owner other than 1 or 2, after TABLE" and INDEX
pub record NoOwner (b : Both) (owner : ℕ) (a : Ask) : Type 0 where
  pub number : number b owner a ≡ 21
  pub part : shown b owner a ≡ []

abbrev pub OwnerRefused : Type 0
OwnerRefused = (b : Both) → Agreed b → (owner : ℕ) (a : Ask) → byte_ask a ≡ true → is_owner owner ≡ false → NoOwner b owner a

-- "No call by one owner .. replaces or removes a slot of the other", on any bytes: a used slot of another stays byte for byte as it was
abbrev pub OthersKept : Type 0
OthersKept =
    (b : Both) (owner : ℕ) (a : Ask) (i : ℕ) → i < slots → (owner_at b.table i ≡ 0 → ⊥) → (owner_at b.table i ≡ owner → ⊥)
    → slot (after b owner a).table i ≡ slot b.table i

-- "No call by one owner shows .. a slot of the other", on any bytes: the part shown is the message of one of the caller's own slots
pub record OwnPart (t x : List ℕ) (owner sin group : ℕ) : Type 0 where
  pub at : ℕ
  pub low : at < slots
  pub owned : owner_at t at ≡ owner
  pub start : part_at t x owner sin group ≡ at * slot_size + 2
  pub size : part_length t x owner sin group ≤ message_size

abbrev pub ShownOwn : Type 0
ShownOwn = (t x : List ℕ) (owner sin group : ℕ) → find_number t x owner sin group ≡ 0 → OwnPart t x owner sin group

-- "FULL exactly when the key is new to the caller and the caller holds 20 or no slot is free": a sound message is refused then, and stored otherwise
abbrev pub FullExactly : Type 0
FullExactly =
    (b : Both) → Agreed b → (owner : ℕ) → is_owner owner ≡ true → (m : List ℕ) → refusal m ≡ 0
    → number b owner (store m)
    ≡ cond (eqb (find_number b.table b.index owner (sin_of m) (group_of (number_of m))) 17 && (leb 20 (holding b.table owner) || leb 32 (used_slots b.table))) 16 0

-- "Each owner may hold at most 20 slots, hence 12 are always there for the other": with fewer than 12 of its own a sound message is stored, whatever the other holds
abbrev pub TwelveThere : Type 0
TwelveThere =
    (b : Both) → Agreed b → (owner : ℕ) → is_owner owner ≡ true → (m : List ℕ) → refusal m ≡ 0 → holding b.table owner < 12 → number b owner (store m) ≡ 0
