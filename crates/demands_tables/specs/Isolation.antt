-- Request A8, "What the neighbour can cause", as statements: histories of the exported calls on a fresh shared table and a fresh index, by owner 1, owner 2 and owners that are none.
-- A reply is the number and the part shown.
-- Assumes nothing.
use Rattle.std.specs.Prelude.{ℕ, ◌+◌, ◌*◌, ◌/◌, ◌%◌, List, [], ◌∷◌, ◌++◌, true, ◌≡◌, length, replicate}
use Rattle.arith.specs.Lists.{up_to}
use Rattle.table_slots.specs.Slots.{is_owner}
use Rattle.table.specs.Table.{holding, used_slots}
use Rattle.table_history.specs.History.{store, Call, calls_of, after_all, log_of}
use Rattle.table_history.specs.Dict.{total}
use Rattle.table_history.specs.Isolation.{replies_to, at_most, kept_after, none, no_key_twice}
use Rattle.table_index_history.specs.Calls.{fresh_both, indexed, byte_calls}

-- "Take two sequences of store, find and remove from a fresh shared table, in which owner 1 makes the same calls and owner 2 makes any at all in between. If owner 1 never asks to hold more than twelve keys at once,
-- every number and every message byte that it gets is the same in both"; "The same holds with owners exchanged". How many keys it asks to hold follows from its own calls alone.
-- Not claimed: "the slot in which a message stands may differ", and the number of probes may ("in A8 (with one fresh index) it may differ"), so neither is in a reply.
abbrev pub NonInterference : Type 0
NonInterference =
    (owner : ℕ) → is_owner owner ≡ true → (cs cs' : List Call) → byte_calls cs ≡ true → byte_calls cs' ≡ true → calls_of owner cs ≡ calls_of owner cs'
    → at_most 12 [] (calls_of owner cs) ≡ true → replies_to indexed owner fresh_both cs ≡ replies_to indexed owner fresh_both cs'

-- "the slots used equal the keys stored and not removed since, counted from the calls that were answered 0", in all and for each owner
pub record SlotsCounted (cs : List Call) : Type 0 where
  pub all : used_slots (after_all indexed fresh_both cs).table ≡ total (kept_after none (log_of indexed fresh_both cs))
  pub each : (owner : ℕ) → is_owner owner ≡ true → holding (after_all indexed fresh_both cs).table owner ≡ length (kept_after none (log_of indexed fresh_both cs) owner)
  pub once : (owner : ℕ) → is_owner owner ≡ true → no_key_twice (kept_after none (log_of indexed fresh_both cs) owner) ≡ true

-- ---- with thirteen keys the replies may differ: owner 1 stores thirteen keys, alone and after owner 2 stored twenty

-- a sound message 1025 with SIN s
unfoldable pub projection : ℕ → List ℕ
projection s = 64 ∷ (16 + s / 16) ∷ (s % 16 * 16) ∷ replicate 22 0

-- an owner stores under the first n SINs
unfoldable pub stores : ℕ → ℕ → List Call
stores owner n = up_to (λ s. record { owner = owner; ask = store (projection s) }) n

unfoldable pub alone : List Call
alone = stores 1 13

unfoldable pub beside_twenty : List Call
beside_twenty = stores 2 20 ++ stores 1 13

pub record ThirteenFail : Type 0 where
  pub calls : calls_of 1 alone ≡ calls_of 1 beside_twenty
  pub asked : at_most 13 [] (calls_of 1 alone) ≡ true
  pub differ : replies_to indexed 1 fresh_both alone ≡ replies_to indexed 1 fresh_both beside_twenty → ⊥
