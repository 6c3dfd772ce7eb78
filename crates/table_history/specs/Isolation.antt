-- The replies that one owner gets among those to all, how many keys its own calls ask to hold, and the keys that the calls answered 0 keep: request A8.
-- Assumes nothing.
use Rattle.std.specs.Prelude.{ℕ, List, [], ◌∷◌, Bool, true, false, not, cond, ◌&&◌, ◌||◌, length, leb, eqb}
use Rattle.table_slots.specs.Slots.{key_of}
use Rattle.table_history.specs.History.{Ask, Call, Calls, Reply, replies, Entry}
use Rattle.table_history.specs.Dict.{Dict, free_after, Dicts, changed_for}

-- ---- of the replies to all calls those that one owner gets

unfoldable pub of_owner : ℕ → List Call → List Reply → List Reply
of_owner o [] rs = []
of_owner o (c ∷ cs) [] = []
of_owner o (c ∷ cs) (r ∷ rs) = cond (eqb c.owner o) (r ∷ of_owner o cs rs) (of_owner o cs rs)

unfoldable pub replies_to : {S : Type 0} → Calls S → ℕ → S → List Call → List Reply
replies_to k o b cs = of_owner o cs (replies k b cs)

-- ---- "never asks to hold more than twelve keys at once": a dictionary without a limit has at most n keys after each of the calls

unfoldable pub at_most : ℕ → Dict → List Ask → Bool
at_most n d [] = true
at_most n d (a ∷ rest) = leb (length (free_after d a)) n && at_most n (free_after d a) rest

-- ---- the keys stored and not removed since, "counted from the calls that were answered 0"

unfoldable pub kept_after : Dicts → List Entry → Dicts
kept_after ds [] = ds
kept_after ds (e ∷ es) = kept_after (cond (eqb e.answer 0) (changed_for ds e.call.owner e.call.ask) ds) es

abbrev pub none : Dicts
none o = []

unfoldable pub has_key : Dict → ℕ → Bool
has_key [] k = false
has_key (m ∷ d) k = eqb (key_of m) k || has_key d k

-- so the messages kept are as many as their keys
unfoldable pub no_key_twice : Dict → Bool
no_key_twice [] = true
no_key_twice (m ∷ d) = not (has_key d (key_of m)) && no_key_twice d
