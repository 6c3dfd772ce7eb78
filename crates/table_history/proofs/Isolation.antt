-- What one owner is left_under does not depend on the other's calls while it asks for at most twelve keys, and the slots used are the keys stored.
-- Rests on that a table and dictionaries that are the same stay so with each call.
-- Assumes nothing.
use Prim.Native.Nat.{ℕ, ◌≤◌, ◌<◌}
use mathlib.Core.Bool.{Bool, true, false, cond}
use mathlib.Core.List.{List, [], ◌∷◌}
use mathlib.Core.Path.{◌≡◌, refl, sym, ap, ◌∙◌}
use native.Mathlib.Omega.{arith}
use native.Mathlib.Decide.{ℕ_discrete}
use lib.ListN.{length}
use lib.Dec.{eqb, leb}
use borrow.Author.Tests.{eqb-true, eq-eqb, ne_eqb, leb-true, lt-leb}
use Rattle.message_rows.specs.Message.{refusal}
use Rattle.arith.proofs.Tests.{both_first, both-second}
use Rattle.table_slots.specs.Slots.{slots, most, is_owner, key_of}
use Rattle.table.specs.Table.{holding, used_slots}
use Rattle.table_history.specs.History.{fresh, Ask, store, find, remove, Call, calls_of, after_all, log_of, Reply, replies}
use Rattle.table_history.specs.Private.{number, after, shown, walk}
use Rattle.table_history.specs.Dict.{Dict, stored_under, is_new, free_number, free_shown, changed, free_after, Dicts, total, full, dict_number, dict_shown, changed_for, dict_after}
use Rattle.table_history.specs.Isolation.{of_owner, replies_to, at_most, kept_after, none, has_key, no_key_twice}
use Rattle.table.proofs.Whole.{formed}
use Rattle.table_history.proofs.Dict.{Sound, without-absent, lookup-hit, lookup-on}
use Rattle.table_history.proofs.Replies.{Same, step, same_total, entries-same, fresh-formed, fresh-empty}
use Rattle.table_history.proofs.Others.{room, calls-own, calls-other}

nil-of : (l : List ℕ) → length l ≡ 0 → l ≡ []
nil-of [] e = refl
nil-of (x ∷ l) e = absurd (omega arith)

-- ---- no call of an owner that asks for at most twelve keys is answered FULL

module _ (t : List ℕ) (ds : Dicts) (s : Same t ds) (o : ℕ) (v : is_owner o ≡ true) where
  -- a key stored anew is one more
  new-key : (m : List ℕ) → refusal m ≡ 0 → is_new (ds o) (key_of m) ≡ true → length (free_after (ds o) (store m)) ≤ 12 → length (ds o) < 12
  unfolding is_new free_after free_number changed
  new-key m a e h =
      let z : stored_under (ds o) (key_of m) ≡ [] = nil-of _ (eqb-true _ 0 e) in
      omega (arith, rw (a, without-absent (ds o) (key_of m) (s.sound o v) z) at h)

  not_full : (a : Ask) → length (free_after (ds o) a) ≤ 12 → full ds o a ≡ false
  unfolding full
  not_full (store m) h = go (ℕ_discrete (refusal m) 0) (is_new (ds o) (key_of m)) refl
    where
      go : Dec (refusal m ≡ 0) → (b : Bool) → is_new (ds o) (key_of m) ≡ b → full ds o (store m) ≡ false
      go (no n) b e = rw (ne_eqb (refusal m) 0 n)
      go (yes a) false e = rw (a, e)
      go (yes a) true e =
          let l : length (ds o) < 12 = new-key m a e h in
          rw (a, e, lt-leb most (length (ds o)) (omega arith), lt-leb slots (total ds) (room t ds s o v l))
  not_full (find x g) h = refl
  not_full (remove x g) h = refl

  -- so it is answered as by a dictionary without a limit
  free-number : (a : Ask) → length (free_after (ds o) a) ≤ 12 → dict_number ds o a ≡ free_number (ds o) a
  unfolding dict_number
  free-number a h = rw (v, not_full a h)

  free-shown : (a : Ask) → dict_shown ds o a ≡ free_shown (ds o) a
  unfolding dict_shown
  free-shown a = rw v

  free-after : (a : Ask) → length (free_after (ds o) a) ≤ 12 → dict_after ds o a o ≡ free_after (ds o) a
  unfolding dict_after free_after changed_for
  free-after a h = rw (free-number a h) (by (eqb (free_number (ds o) a) 0))
    where
      by : (b : Bool) → cond b (changed_for ds o a) ds o ≡ cond b (changed (ds o) a) (ds o)
      by true = rw (eq-eqb o o refl)
      by false = refl

-- a call of another owner leaves the dictionary
kept-other : (ds : Dicts) (p : ℕ) (a : Ask) (o : ℕ) → (p ≡ o → ⊥) → dict_after ds p a o ≡ ds o
unfolding dict_after changed_for
kept-other ds p a o n = by (eqb (dict_number ds p a) 0)
  where
    by : (b : Bool) → cond b (changed_for ds p a) ds o ≡ ds o
    by true = rw (ne_eqb p o n)
    by false = refl

-- ---- the replies to an owner, by cases

module _ (o : ℕ) (t : List ℕ) (c : Call) (cs : List Call) where
  replies-own : c.owner ≡ o
      → replies_to walk o t (c ∷ cs) ≡ record { answer = number t o c.ask; part = shown t o c.ask } ∷ replies_to walk o (after t o c.ask) cs
  unfolding replies_to of_owner replies
  replies-own e =
      rw (eq-eqb c.owner o e, of_owner)
      (ap (λ (p : ℕ). record { answer = number t p c.ask; part = shown t p c.ask } ∷ replies_to walk o (after t p c.ask) cs) e)

  replies-other : (c.owner ≡ o → ⊥) → replies_to walk o t (c ∷ cs) ≡ replies_to walk o (after t c.owner c.ask) cs
  unfolding replies_to of_owner replies
  replies-other n = rw (ne_eqb c.owner o n, of_owner)

-- what a dictionary without a limit replies
unfoldable pub free_replies : Dict → List Ask → List Reply
free_replies d [] = []
free_replies d (a ∷ rest) = record { answer = free_number d a; part = free_shown d a } ∷ free_replies (free_after d a) rest

-- ---- whole histories

asked-first : (d : Dict) (a : Ask) (rest : List Ask) → at_most 12 d (a ∷ rest) ≡ true → (length (free_after d a) ≤ 12) × (at_most 12 (free_after d a) rest ≡ true)
unfolding at_most
asked-first d a rest h =
    (leb-true (length (free_after d a)) 12 (both_first _ (at_most 12 (free_after d a) rest) h), both-second (leb (length (free_after d a)) 12) _ h)

pub replies-alone : (o : ℕ) → is_owner o ≡ true → (cs : List Call) (t : List ℕ) (ds : Dicts) → Same t ds → at_most 12 (ds o) (calls_of o cs) ≡ true
    → replies_to walk o t cs ≡ free_replies (ds o) (calls_of o cs)
unfolding replies_to of_owner free_replies calls_of
replies-alone o v [] t ds s h = refl
replies-alone o v (c ∷ cs) t ds s h = go (ℕ_discrete c.owner o) (replies-alone o v cs)
  where
    a : Ask
    a = c.ask

    own : List Ask
    own = calls_of o cs

    go : Dec (c.owner ≡ o) → ((u : List ℕ) (es : Dicts) → Same u es → at_most 12 (es o) own ≡ true → replies_to walk o u cs ≡ free_replies (es o) own)
        → replies_to walk o t (c ∷ cs) ≡ free_replies (ds o) (calls_of o (c ∷ cs))
    go (no n) rest =
        let e = kept-other ds c.owner a o n in
        replies-other o t c cs n
        ∙ rest (after t c.owner a) (dict_after ds c.owner a) (step t ds c.owner a s).next
        (ap (λ (d : Dict). at_most 12 d own) e ∙ ap (at_most 12 (ds o)) (sym (calls-other o c cs n)) ∙ h)
        ∙ ap (λ (d : Dict). free_replies d own) e ∙ ap (free_replies (ds o)) (sym (calls-other o c cs n))
    go (yes q) rest =
        let b = asked-first (ds o) a own (ap (at_most 12 (ds o)) (sym (calls-own o c cs q)) ∙ h) in
        let p = step t ds o a s in
        let e = free-after t ds s o v a b.0 in
        replies-own o t c cs q
        ∙ rw (p.answer ∙ free-number t ds s o v a b.0, p.part ∙ free-shown t ds s o v a)
        (ap (λ (l : List Reply). record { answer = free_number (ds o) a; part = free_shown (ds o) a } ∷ l)
        (rest (after t o a) (dict_after ds o a) p.next (ap (λ (d : Dict). at_most 12 d own) e ∙ b.1) ∙ ap (λ (d : Dict). free_replies d own) e))
        ∙ ap (free_replies (ds o)) (sym (calls-own o c cs q))

-- a table and dictionaries that are the same stay so, where the calls answered 0 change the dictionaries
kept_same : (cs : List Call) (t : List ℕ) (ds : Dicts) → Same t ds → Same (after_all walk t cs) (kept_after ds (log_of walk t cs))
unfolding after_all log_of kept_after dict_after
kept_same [] t ds s = s
kept_same (c ∷ cs) t ds s =
    let p = step t ds c.owner c.ask s in
    rw p.answer (kept_same cs (after t c.owner c.ask) (dict_after ds c.owner c.ask) p.next)

-- ---- a fresh table and no keys

pub fresh-same : Same fresh none
unfolding stored_under
fresh-same =
    let s = entries-same fresh (formed fresh fresh-formed) in
    record {
      whole = s.whole;
      looks = λ o k v. ap (λ (d : Dict). stored_under d k) (sym (fresh-empty o v)) ∙ s.looks o k v;
      sound = λ o v. tt;
      count = λ o v. ap length (sym (fresh-empty o v)) ∙ s.count o v;
    }

-- REQUEST A8: from a fresh table an owner that asks for at most twelve keys is left_under what its own calls alone decide
pub alone : (o : ℕ) → is_owner o ≡ true → (cs : List Call) → at_most 12 [] (calls_of o cs) ≡ true → replies_to walk o fresh cs ≡ free_replies [] (calls_of o cs)
alone o v cs h = replies-alone o v cs fresh none fresh-same h

-- so whatever the isolation calls in between
pub non-interference : (o : ℕ) → is_owner o ≡ true → (cs cs' : List Call) → calls_of o cs ≡ calls_of o cs' → at_most 12 [] (calls_of o cs) ≡ true
    → replies_to walk o fresh cs ≡ replies_to walk o fresh cs'
non-interference o v cs cs' e h =
    alone o v cs h ∙ ap (free_replies []) e ∙ sym (alone o v cs' (ap (at_most 12 []) (sym e) ∙ h))

-- ---- the slots used are the keys stored and not removed since

has-none : (d : Dict) (k : ℕ) → Sound d → stored_under d k ≡ [] → has_key d k ≡ false
unfolding has_key
has-none [] k s e = refl
has-none (m ∷ d) k s e = go (ℕ_discrete (key_of m) k) (has-none d k s.2)
  where
    go : Dec (key_of m ≡ k) → (stored_under d k ≡ [] → has_key d k ≡ false) → has_key (m ∷ d) k ≡ false
    go (yes q) h = absurd (let z = ap length (sym (lookup-hit m d k q) ∙ e) in omega (arith, s.0))
    go (no n) h = rw (ne_eqb (key_of m) k n, has_key) (h (sym (lookup-on m d k n) ∙ e))

once : (d : Dict) → Sound d → no_key_twice d ≡ true
unfolding no_key_twice
once [] s = refl
once (m ∷ d) s = rw (has-none d (key_of m) s.2 s.1) (once d s.2)

module _ (cs : List Call) where
  kept : Same (after_all walk fresh cs) (kept_after none (log_of walk fresh cs))
  kept = kept_same cs fresh none fresh-same

  pub used-are-kept : used_slots (after_all walk fresh cs) ≡ total (kept_after none (log_of walk fresh cs))
  used-are-kept = sym (same_total (after_all walk fresh cs) (kept_after none (log_of walk fresh cs)) kept)

  pub held-are-kept : (o : ℕ) → is_owner o ≡ true → holding (after_all walk fresh cs) o ≡ length (kept_after none (log_of walk fresh cs) o)
  held-are-kept o v = sym (kept.count o v)

  pub kept-once : (o : ℕ) → is_owner o ≡ true → no_key_twice (kept_after none (log_of walk fresh cs) o) ≡ true
  kept-once o v = once (kept_after none (log_of walk fresh cs) o) (kept.sound o v)
