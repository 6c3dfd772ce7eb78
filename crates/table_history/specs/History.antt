-- Whole histories of calls on any state, and what find must answer after them: demand 2's table sentence, for each owner.
-- Assumes nothing.
use Rattle.std.specs.Prelude.{ℕ, List, [], ◌∷◌, cond, ◌&&◌, eqb, replicate}
use Rattle.table_slots.specs.Slots.{table_size, key, key_of}

-- a fresh shared table: 4,224 zero bytes
abbrev pub fresh : List ℕ
fresh = replicate table_size 0

-- what is asked for, and a call: what an owner asks for
pub data Ask : Type 0 where
  store : List ℕ → Ask
  find remove : ℕ → ℕ → Ask

pub record Call : Type 0 where
  pub owner : ℕ
  pub ask : Ask

-- one owner's calls among those of all
unfoldable pub calls_of : ℕ → List Call → List Ask
calls_of o [] = []
calls_of o (c ∷ cs) = cond (eqb c.owner o) (c.ask ∷ calls_of o cs) (calls_of o cs)

-- ---- lists of calls on a state of type S

-- the number that an owner's call answers, the part that it shows, and the state after it
pub record Calls (S : Type 0) : Type 0 where
  pub number : S → ℕ → Ask → ℕ
  pub shown : S → ℕ → Ask → List ℕ
  pub after : S → ℕ → Ask → S

-- the state after all of them
unfoldable pub after_all : {S : Type 0} → Calls S → S → List Call → S
after_all k b [] = b
after_all k b (c ∷ cs) = after_all k (k.after b c.owner c.ask) cs

-- the replies: the number and the part shown
pub record Reply : Type 0 where
  pub answer : ℕ
  pub part : List ℕ

unfoldable pub replies : {S : Type 0} → Calls S → S → List Call → List Reply
replies k b [] = []
replies k b (c ∷ cs) =
    record { answer = k.number b c.owner c.ask; part = k.shown b c.owner c.ask } ∷ replies k (k.after b c.owner c.ask) cs

-- the calls with the numbers that they answered
pub record Entry : Type 0 where
  pub call : Call
  pub answer : ℕ

unfoldable pub log_of : {S : Type 0} → Calls S → S → List Call → List Entry
log_of k b [] = []
log_of k b (c ∷ cs) = record { call = c; answer = k.number b c.owner c.ask } ∷ log_of k (k.after b c.owner c.ask) cs

-- ---- what was last stored

-- what an owner's call that was answered 0 leaves under its key k, where old stood before
unfoldable pub left_under : ℕ → List ℕ → Ask → List ℕ
left_under k old (store m) = cond (eqb (key_of m) k) m old
left_under k old (find s g) = old
left_under k old (remove s g) = cond (eqb (key s g) k) [] old

-- what owner o last stored under k and did not remove since, where old counts as stored: only its calls answered 0 count
unfoldable pub last_of : ℕ → ℕ → List ℕ → List Entry → List ℕ
last_of o k old [] = old
last_of o k old (e ∷ es) = last_of o k (cond (eqb e.call.owner o && eqb e.answer 0) (left_under k old e.call.ask) old) es
