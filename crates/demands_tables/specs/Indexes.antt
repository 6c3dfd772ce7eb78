-- Request A9, "Finding quickly", as statements of the exported calls.
-- Assumes nothing.
use Rattle.std.specs.Prelude.{ℕ, ◌≤◌, ◌<◌, ◌≡◌, true, List, length}
use Rattle.table_slots.specs.Slots.{slots, slot}
use Rattle.table.specs.Table.{well_formed, found_of}
use Rattle.table_history.specs.History.{Call, after_all}
use Rattle.table_index_search.specs.Index.{key_at, slot_at}
use Rattle.table_index_search.specs.Search.{named, is_found, slot_found, searched, entries_at}
use Rattle.table_index_search.specs.Means.{mark_in, Agrees}
use Rattle.table_indexed.specs.Indexed.{entry_key, slot_key, slot_keys, agrees_refusal, write_refusal, write_index}
use Rattle.table_indexed.specs.Find.{found_by}
use Rattle.table_index_history.specs.Calls.{Both, Agreed, indexed, byte_calls}
use Rattle.table_index_search.specs.Index as index

-- ---- agreement

-- "so formed, one entry true to each used slot, no more": exactly then a well-formed table and its index agree
pub record AgreementIs (t x : List ℕ) : Type 0 where
  pub means : agrees_refusal t x ≡ 0 → Agrees (mark_in (slot_keys t)) x
  pub tests : well_formed t ≡ true → Agrees (mark_in (slot_keys t)) x → agrees_refusal t x ≡ 0

-- one entry only has the key of a used slot
abbrev pub OneEntry : Type 0
OneEntry =
    (t x : List ℕ) → agrees_refusal t x ≡ 0 → (i j k : ℕ) → i < slots → (slot_key (slot t i) ≡ 0 → ⊥) → j < index.entries → k < index.entries
    → key_at x j ≡ slot_key (slot t i) → key_at x k ≡ slot_key (slot t i) → (j ≡ k) × (slot_at x j ≡ i)

-- "store and remove .. leave the two in agreement", over any history
abbrev pub AgreementKept : Type 0
AgreementKept = (b : Both) → Agreed b → (cs : List Call) → byte_calls cs ≡ true → Agreed (after_all indexed b cs)

-- "Another call writes the index anew for any table"
abbrev pub WrittenAgrees : Type 0
WrittenAgrees = (t x : List ℕ) → write_refusal t x ≡ 0 → agrees_refusal t (write_index t x) ≡ 0

-- ---- "Where the two agree, it shows what the walk shows"

pub record LikeTheWalk (t x : List ℕ) (owner sin group : ℕ) : Type 0 where
  pub refusal : (found_by t x owner sin group).refusal ≡ (found_of t owner sin group).refusal
  pub at : (found_by t x owner sin group).at ≡ (found_of t owner sin group).at
  pub length : (found_by t x owner sin group).length ≡ (found_of t owner sin group).length

abbrev pub FindsLikeTheWalk : Type 0
FindsLikeTheWalk = (t x : List ℕ) → agrees_refusal t x ≡ 0 → (owner sin group : ℕ) → sin < 256 → LikeTheWalk t x owner sin group

-- ---- what find reads, on any bytes

-- "it also gives their number, the rule's count of halvings, never above 6"
pub record ProbesCounted (t x : List ℕ) (owner sin group : ℕ) : Type 0 where
  pub few : (found_by t x owner sin group).probes ≤ 6
  pub count : (found_by t x owner sin group).refusal ≡ 0 → (found_by t x owner sin group).probes ≡ length (named x (entry_key owner sin group))

-- "Find reads only the entries that this halving rule names, then one slot": with equal sizes, equal entries there and an equal slot it answers the same
abbrev pub FindReads : Type 0
FindReads =
    (t t' x x' : List ℕ) (owner sin group : ℕ) → length t ≡ length t' → length x ≡ length x'
    → entries_at x (named x (entry_key owner sin group)) ≡ entries_at x' (named x (entry_key owner sin group))
    → (is_found (searched x (entry_key owner sin group)) ≡ true → slot t (slot_found (searched x (entry_key owner sin group))) ≡ slot t' (slot_found (searched x (entry_key owner sin group))))
    → found_by t x owner sin group ≡ found_by t' x' owner sin group
