-- A well-formed table replies to any list of calls as the dictionaries of its entries do. Rests on the laws of one call and of dictionaries.
-- Assumes nothing.
use Prim.Native.Nat.{ℕ, zero, suc, ◌≤◌, ◌<◌}
use mathlib.Core.Bool.{Bool, true, false, cond, ◌&&◌, ◌||◌}
use mathlib.Core.List.{List, [], ◌∷◌}
use mathlib.Core.Path.{◌≡◌, refl, sym, ap, subst, ◌∙◌}
use mathlib.Core.Logic.{⊎_elim}
use native.Mathlib.Omega.{arith}
use native.Mathlib.Decide.{dec_lt, ℕ_discrete}
use lib.ListN.{length}
use lib.Dec.{eqb, leb}
use borrow.Author.Tests.{eq-eqb, ne_eqb, lt-ltb, le-ltb, le-leb, lt-leb}
use Rattle.arith.specs.Places.{first_of}
use Rattle.message_rows.specs.Message.{refusal}
use Rattle.message_rows.proofs.Limits.{accepted-size}
use Rattle.table_slots.specs.Slots.{slots, most, is_owner, well_slot, all_zero, key, key_of, joined, slot, owner_at, held, tag}
use Rattle.table.specs.Table.{flawed, well_slots, count_of, new_key, place, owns, holding, is_used, used_slots, well_formed, put, store_place, store_table, key_place, find_refusal, remove_table}
use Rattle.table.specs.Inner.{found}
use Rattle.table_history.specs.History.{fresh, Ask, store, find, remove, Call, left_under, Reply, replies}
use Rattle.table_history.specs.Private.{number, after, shown, walk}
use Rattle.table_history.specs.Dict.{Dict, stored_under, without, is_new, key_number, free_number, free_shown, changed, Dicts, total, full, dict_number, dict_shown, changed_for, dict_after, dictionaries, entries_to, entries}
use Rattle.table_slots.proofs.Owner.{not_none, by-owner}
use Rattle.table.proofs.Count.{count-all, count-lt}
use Rattle.table.proofs.Whole.{Formed, formed, well-formed}
use Rattle.table_slots.proofs.Slot.{used-size, tag_free, tag-used, tag-none, tag-says}
use Rattle.table.proofs.Calls.{store-owner, store-refused, store-full, store-done, find-owner, find_none, find-done, store_place-old, store_place-new, store_place-most}
use Rattle.table_history.proofs.Look.{place_of, distinct-at, Holds, Absent, look, look-holds, look-absent, look-cases}
use Rattle.table_history.proofs.Hold.{hold-up, hold-down, hold-again, hold-kept, used-sum}
use Rattle.table_history.proofs.Step.{key-at, owner_at_lem}
use Rattle.table_history.proofs.Last.{keep, refused-keeps}
use Rattle.table_history.proofs.Answers.{find-look, find-other, find-stranger}
use Rattle.table_history.proofs.Dict.{Sound, lookup-hit, lookup-on, without-absent, without-present, lookup-without-same, sound-without, lookup-stored, lookup-removed}

-- a table and the dictionaries that it stands for
pub record Same (t : List ℕ) (ds : Dicts) : Type 0 where
  pub whole : Formed t
  pub looks : (o k : ℕ) → is_owner o ≡ true → stored_under (ds o) k ≡ look t (joined o k)
  pub sound : (o : ℕ) → is_owner o ≡ true → Sound (ds o)
  pub count : (o : ℕ) → is_owner o ≡ true → length (ds o) ≡ holding t o

pub same_total : (t : List ℕ) (ds : Dicts) → Same t ds → total ds ≡ used_slots t
unfolding total is_owner
same_total t ds s = omega (arith, s.count 1 refl, s.count 2 refl, used-sum t s.whole)

-- ---- one call: the same reply, and the same again

pub record Step (t : List ℕ) (ds : Dicts) (o : ℕ) (a : Ask) : Type 0 where
  pub answer : number t o a ≡ dict_number ds o a
  pub part : shown t o a ≡ dict_shown ds o a
  pub next : Same (after t o a) (dict_after ds o a)

-- what an answer of 0 changes in a dictionary
changed-left : (a : Ask) (d : Dict) (k : ℕ) → stored_under (changed d a) k ≡ left_under k (stored_under d k) a
unfolding changed left_under
changed-left (store m) d k = lookup-stored m d k
changed-left (find s g) d k = refl
changed-left (remove s g) d k = lookup-removed d (key s g) k

pub sound-changed : (a : Ask) (d : Dict) → free_number d a ≡ 0 → Sound d → Sound (changed d a)
unfolding changed free_number
sound-changed (store m) d e s = (omega (arith, (accepted-size m e).0), lookup-without-same d (key_of m), sound-without d (key_of m) s)
sound-changed (find x g) d e s = s
sound-changed (remove x g) d e s = sound-without d (key x g) s

-- what an answer of 0 by the dictionaries says
dict-zero : (ds : Dicts) (o : ℕ) (a : Ask) → dict_number ds o a ≡ 0 → free_number (ds o) a ≡ 0
unfolding dict_number
dict-zero ds o a = by (is_owner o) (full ds o a)
  where
    by : (b d : Bool) → cond b (cond d 16 (free_number (ds o) a)) 21 ≡ 0 → free_number (ds o) a ≡ 0
    by true true e = absurd (omega arith)
    by true false e = e
    by false d e = absurd (omega arith)

-- how many keys the dictionaries have after a call answered 0
abbrev Counts : List ℕ → Dicts → ℕ → Ask → Type 0
Counts t ds o a = number t o a ≡ 0 → (p : ℕ) → is_owner p ≡ true → length (changed_for ds o a p) ≡ holding (after t o a) p

module _ (t : List ℕ) (ds : Dicts) (o : ℕ) (a : Ask) (s : Same t ds) where
  refuse : number t o a ≡ dict_number ds o a → shown t o a ≡ dict_shown ds o a → (number t o a ≡ 0 → ⊥) → Step t ds o a
  unfolding dict_after
  refuse e p n =
      record { answer = e; part = p; next = rw (refused-keeps t o a n, ne_eqb (dict_number ds o a) 0 (λ z. n (e ∙ z))) s }

  do-it : number t o a ≡ dict_number ds o a → shown t o a ≡ dict_shown ds o a → number t o a ≡ 0 → Counts t ds o a → Step t ds o a
  unfolding dict_after changed_for
  do-it e p z c =
      let b : dict_number ds o a ≡ 0 = sym e ∙ z in
      record {
        answer = e;
        part = p;
        next = rw b
            (record {
              whole = (keep t s.whole o a).0;
              looks = λ r k u. looks r k u (ℕ_discrete o r);
              sound = λ r u. sounds r u (ℕ_discrete o r);
              count = c z;
            });
      }
    where
      looks : (r k : ℕ) → is_owner r ≡ true → Dec (o ≡ r) → stored_under (changed_for ds o a r) k ≡ look (after t o a) (joined r k)
      looks r k u (yes q) =
          let h = (keep t s.whole o a).1 r k u in
          rw (eq-eqb o r q) (changed-left a (ds r) k ∙ ap (λ (m : List ℕ). left_under k m a) (s.looks r k u) ∙ sym (rw (eq-eqb o r q, z) at h))
      looks r k u (no n) =
          let h = (keep t s.whole o a).1 r k u in
          rw (ne_eqb o r n) (s.looks r k u ∙ sym (rw (ne_eqb o r n) at h))

      sounds : (r : ℕ) → is_owner r ≡ true → Dec (o ≡ r) → Sound (changed_for ds o a r)
      sounds r u (yes q) = rw (eq-eqb o r q) (sound-changed a (ds r) (ap (λ (x : ℕ). free_number (ds x) a) (sym q) ∙ dict-zero ds o a (sym e ∙ z)) (s.sound r u))
      sounds r u (no n) = rw (ne_eqb o r n) (s.sound r u)

  step_by_lem : number t o a ≡ dict_number ds o a → shown t o a ≡ dict_shown ds o a → Counts t ds o a → Step t ds o a
  step_by_lem e p c = go (ℕ_discrete (number t o a) 0)
    where
      go : Dec (number t o a ≡ 0) → Step t ds o a
      go (yes z) = do-it e p z c
      go (no n) = refuse e p n

  -- the caller's count changes alone
  counts-by : (u : List ℕ) → length (changed (ds o) a) ≡ holding u o → ((p : ℕ) → is_owner p ≡ true → (o ≡ p → ⊥) → holding u p ≡ holding t p)
      → (p : ℕ) → is_owner p ≡ true → length (changed_for ds o a p) ≡ holding u p
  unfolding changed_for
  counts-by u x y p w = go (ℕ_discrete o p)
    where
      own : length (changed_for ds o a o) ≡ holding u o
      own = rw (eq-eqb o o refl) x

      go : Dec (o ≡ p) → length (changed_for ds o a p) ≡ holding u p
      go (yes q) = subst (λ (r : ℕ). length (changed_for ds o a r) ≡ holding u r) q own
      go (no n) = rw (ne_eqb o p n) (s.count p w ∙ sym (y p w n))

-- a key that the table has
module _ (t : List ℕ) (ds : Dicts) (o k i : ℕ) (s : Same t ds) (v : is_owner o ≡ true) (l : i < slots) (e : tag (slot t i) ≡ suc (joined o k)) where
  stored-long : 2 ≤ length (stored_under (ds o) k)
  stored-long =
      let f = s.whole in
      let h : stored_under (ds o) k ≡ held (slot t i) = s.looks o k v ∙ look-holds t f (joined o k) (held (slot t i)) (record { at = i; low = l; key = e; message = refl }) in
      let n : owner_at t i ≡ 0 → ⊥ = λ q. (let y : ◌≡◌ {A = ℕ} 0 (suc (joined o k)) = sym (tag_free (slot t i) q) ∙ e in omega arith) in
      omega (arith, ap length h, (used-size (slot t i) (f.well i l) n).0)

  not_new : is_new (ds o) k ≡ false
  unfolding is_new
  not_new = ne_eqb (length (stored_under (ds o) k)) 0 (λ z. omega (arith, stored-long))

  one_less : suc (length (without (ds o) k)) ≡ length (ds o)
  one_less = without-present (ds o) k (s.sound o v) (λ z. omega (arith, ap length z, stored-long))

-- ---- store

module _ (t : List ℕ) (ds : Dicts) (o : ℕ) (m : List ℕ) (s : Same t ds) (v : is_owner o ≡ true) (a : refusal m ≡ 0) where
  f : Formed t
  f = s.whole

  abbrev g : ℕ
  g = suc (joined o (key_of m))

  dict-store : {x y z : Bool} → is_new (ds o) (key_of m) ≡ x → leb most (length (ds o)) ≡ y → leb slots (total ds) ≡ z
      → dict_number ds o (store m) ≡ cond (x && (y || z)) 16 0
  unfolding dict_number full free_number
  dict-store p q r = rw (v, a, p, q, r)

  size : length m ≤ 127
  size = (accepted-size m a).1

  store-old : place t g slots < slots → Step t ds o (store m)
  unfolding number after shown dict_shown free_shown changed
  store-old l =
      let i : ℕ = place t g slots in
      let there : tag (slot t i) ≡ g = (place_of t g slots).there l in
      let e : store_place t o m ≡ i = store_place-old t o m l in
      let r = store-done t o m (well-formed t f) v a (omega (arith, e)) in
      let h : (p : ℕ) → holding (store_table t o m) p ≡ holding t p =
      λ p. ap (λ (u : List ℕ). holding u p) (r.table ∙ ap (λ (j : ℕ). put t j o m) e)
      ∙ hold-again t m i o f.size l size p (tag-says (slot t i) (f.well i l) o (key_of m) v there).0 in
      step_by_lem t ds o (store m) s (r.number ∙ sym (dict-store (not_new t ds o (key_of m) i s v l there) refl refl)) (rw v)
      (λ z. counts-by t ds o (store m) s (store_table t o m) (one_less t ds o (key_of m) i s v l there ∙ s.count o v ∙ sym (h o)) (λ p w n. h p))

  module _ (l : slots ≤ place t g slots) where
    nothing : stored_under (ds o) (key_of m) ≡ []
    nothing = s.looks o (key_of m) v ∙ look-absent t (joined o (key_of m)) (λ j h. (place_of t g slots).before j (omega arith))

    is-new : is_new (ds o) (key_of m) ≡ true
    unfolding is_new
    is-new = rw nothing

    store-full-one : most ≤ holding t o → Step t ds o (store m)
    unfolding number after shown dict_shown free_shown
    store-full-one k =
        let e : store_place t o m ≡ slots = store_place-most t o m l k in
        let r = store-full t o m (well-formed t f) v a (omega (arith, e)) in
        let q : leb most (length (ds o)) ≡ true = le-leb most (length (ds o)) (omega (arith, s.count o v)) in
        refuse t ds o (store m) s (r.number ∙ sym (dict-store is-new q refl)) (rw v) (λ z. omega (arith, r.number))

    store-full-all : holding t o < most → slots ≤ place t 0 slots → Step t ds o (store m)
    unfolding number after shown dict_shown free_shown used_slots is_used owns
    store-full-all k h =
        let e : store_place t o m ≡ place t 0 slots = store_place-new t o m l k in
        let r = store-full t o m (well-formed t f) v a (omega (arith, e)) in
        let u : used_slots t ≡ slots = count-all (is_used t) slots (λ j b. rw (ne_eqb (owner_at t j) 0 (λ q. (place_of t 0 slots).before j (omega arith) (tag_free (slot t j) q)))) in
        let q : leb most (length (ds o)) ≡ false = lt-leb most (length (ds o)) (omega (arith, s.count o v)) in
        let x : leb slots (total ds) ≡ true = le-leb slots (total ds) (omega (arith, same_total t ds s)) in
        refuse t ds o (store m) s (r.number ∙ sym (dict-store is-new q x)) (rw v) (λ z. omega (arith, r.number))

    store-new : holding t o < most → place t 0 slots < slots → Step t ds o (store m)
    unfolding number after shown dict_shown free_shown changed used_slots is_used owns
    store-new k h =
        let i : ℕ = place t 0 slots in
        let e : store_place t o m ≡ i = store_place-new t o m l k in
        let there : owner_at t i ≡ 0 = tag-none (slot t i) ((place_of t 0 slots).there h) in
        let r = store-done t o m (well-formed t f) v a (omega (arith, e)) in
        let u : used_slots t < slots = count-lt (is_used t) slots i h (rw there) in
        let q : leb most (length (ds o)) ≡ false = lt-leb most (length (ds o)) (omega (arith, s.count o v)) in
        let x : leb slots (total ds) ≡ false = lt-leb slots (total ds) (omega (arith, same_total t ds s)) in
        let b : (p : ℕ) → holding (store_table t o m) p ≡ holding (put t i o m) p = λ p. ap (λ (w : List ℕ). holding w p) (r.table ∙ ap (λ (j : ℕ). put t j o m) e) in
        step_by_lem t ds o (store m) s (r.number ∙ sym (dict-store is-new q x)) (rw v)
        (λ z. counts-by t ds o (store m) s (store_table t o m)
        (ap (λ (d : Dict). suc (length d)) (without-absent (ds o) (key_of m) (s.sound o v) nothing) ∙ ap suc (s.count o v)
        ∙ sym (b o ∙ hold-up t m i o f.size h size o (λ y. not_none o v (sym y ∙ there)) refl))
        (λ p w n. b p ∙ hold-kept t m i o f.size h size p (λ y. not_none p w (sym y ∙ there)) n))

store_step : (t : List ℕ) (ds : Dicts) (o : ℕ) (m : List ℕ) → Same t ds → Step t ds o (store m)
unfolding number after shown dict_shown dict_number free_number free_shown full
store_step t ds o m s = go (is_owner o) refl (ℕ_discrete (refusal m) 0) (dec_lt (place t g slots) slots) (dec_lt (holding t o) most) (dec_lt (place t 0 slots) slots)
  where
    g : ℕ
    g = suc (joined o (key_of m))

    f : Formed t
    f = s.whole

    go : (b : Bool) → is_owner o ≡ b → Dec (refusal m ≡ 0) → Dec (place t g slots < slots) → Dec (holding t o < most) → Dec (place t 0 slots < slots) → Step t ds o (store m)
    go false v a p h q =
        let r = store-owner t o m (well-formed t f) v in
        refuse t ds o (store m) s (r.number ∙ sym (rw v)) (rw v) (λ z. omega (arith, r.number))
    go true v (no a) p h q =
        let r = store-refused t o m (well-formed t f) v a in
        refuse t ds o (store m) s (r.number ∙ sym (rw (v, ne_eqb (refusal m) 0 a))) (rw v) (λ z. a (sym r.number ∙ z))
    go true v (yes a) (yes p) h q = store-old t ds o m s v a p
    go true v (yes a) (no p) (no h) q = store-full-one t ds o m s v a (omega arith) (omega arith)
    go true v (yes a) (no p) (yes h) (no q) = store-full-all t ds o m s v a (omega arith) h (omega arith)
    go true v (yes a) (no p) (yes h) (yes q) = store-new t ds o m s v a (omega arith) h q

-- ---- find and remove

module _ (t : List ℕ) (ds : Dicts) (o s g : ℕ) (same : Same t ds) where
  formed-t : Formed t
  formed-t = same.whole

  key-number : (b : Bool) → is_owner o ≡ b → Dec (g < 3) → find_refusal t o s g ≡ cond (is_owner o) (key_number (ds o) s g) 21
  unfolding key_number is_new
  key-number false v d = rw v (find-stranger t formed-t o s g v).number
  key-number true v (yes h) =
      rw (v, lt-ltb g 3 h) ((find-look t formed-t o s g v h).number ∙ ap (λ (m : List ℕ). cond (eqb (length m) 0) 17 0) (sym (same.looks o (key s g) v)))
  key-number true v (no h) = rw (v, le-ltb g 3 (omega arith)) (find-other t formed-t o s g v (omega arith)).number

  key-shown : (b : Bool) → is_owner o ≡ b → Dec (g < 3) → found t o s g ≡ dict_shown ds o (find s g)
  unfolding dict_shown free_shown
  key-shown false v d = rw v (find-stranger t formed-t o s g v).shown
  key-shown true v (yes h) = rw (v, lt-ltb g 3 h) ((find-look t formed-t o s g v h).shown ∙ sym (same.looks o (key s g) v))
  key-shown true v (no h) = rw (v, le-ltb g 3 (omega arith)) (find-other t formed-t o s g v (omega arith)).shown

  find-step : Step t ds o (find s g)
  unfolding number after shown dict_number full free_number changed changed_for
  find-step =
      step_by_lem t ds o (find s g) same (key-number (is_owner o) refl (dec_lt g 3)) (key-shown (is_owner o) refl (dec_lt g 3))
      (λ z p w. either (eqb o p) p ∙ same.count p w)
    where
      either : (b : Bool) (p : ℕ) → length (cond b (ds p) (ds p)) ≡ length (ds p)
      either true p = refl
      either false p = refl

  remove-step : Step t ds o (remove s g)
  unfolding number after shown dict_number dict_shown full free_number free_shown changed
  remove-step = go (is_owner o) refl (dec_lt (key_place t o s g) slots)
    where
      n : find_refusal t o s g ≡ cond (is_owner o) (key_number (ds o) s g) 21
      n = key-number (is_owner o) refl (dec_lt g 3)

      go : (b : Bool) → is_owner o ≡ b → Dec (key_place t o s g < slots) → Step t ds o (remove s g)
      go false v d = refuse t ds o (remove s g) same n (rw v) (λ z. omega (arith, (find-owner t o s g (well-formed t formed-t) v).number))
      go true v (no l) = refuse t ds o (remove s g) same n (rw v) (λ z. omega (arith, (find_none t o s g (well-formed t formed-t) v (omega arith)).number))
      go true v (yes l) =
          let i : ℕ = key_place t o s g in
          let r = find-done t o s g (well-formed t formed-t) v l in
          let b : (p : ℕ) → holding (remove_table t o s g) p ≡ holding (put t i 0 []) p = λ p. ap (λ (w : List ℕ). holding w p) r.table in
          let w : suc (length (without (ds o) (key s g))) ≡ length (ds o) = one_less t ds o (key s g) i same v l (key-at t o s g formed-t v l) in
          let d = hold-down t [] i 0 formed-t.size l (omega arith) o (owner_at_lem t o s g formed-t v l) (λ y. not_none o v (sym y)) in
          step_by_lem t ds o (remove s g) same n (rw v)
          (λ z. counts-by t ds o (remove s g) same (remove_table t o s g) (omega (arith, w, d, b o, same.count o v))
          (λ p u y. b p ∙ hold-kept t [] i 0 formed-t.size l (omega arith) p (λ q. y (sym (owner_at_lem t o s g formed-t v l) ∙ q)) (λ q. not_none p u (sym q))))

pub step : (t : List ℕ) (ds : Dicts) (o : ℕ) (a : Ask) → Same t ds → Step t ds o a
step t ds o (store m) s = store_step t ds o m s
step t ds o (find a g) s = find-step t ds o a g s
step t ds o (remove a g) s = remove-step t ds o a g s

-- ---- any list of calls

-- any table and dictionaries that are the same reply the same
pub same-replies : (cs : List Call) (t : List ℕ) (ds : Dicts) → Same t ds → replies walk t cs ≡ replies dictionaries ds cs
unfolding replies
same-replies [] t ds s = refl
same-replies (c ∷ cs) t ds s =
    let p = step t ds c.owner c.ask s in
    rw (p.answer, p.part) (ap (λ (l : List Reply). record { answer = dict_number ds c.owner c.ask; part = dict_shown ds c.owner c.ask } ∷ l) (same-replies cs (after t c.owner c.ask) (dict_after ds c.owner c.ask) p.next))

-- ---- the entries of a table

entry-own : (t : List ℕ) (o n : ℕ) → owner_at t n ≡ o → entries_to t o (suc n) ≡ held (slot t n) ∷ entries_to t o n
unfolding entries_to owns
entry-own t o n e = rw (eq-eqb (owner_at t n) o e, entries_to)

entry_other : (t : List ℕ) (o n : ℕ) → (owner_at t n ≡ o → ⊥) → entries_to t o (suc n) ≡ entries_to t o n
unfolding entries_to owns
entry_other t o n e = rw (ne_eqb (owner_at t n) o e, entries_to)

entries-count : (t : List ℕ) (o n : ℕ) → length (entries_to t o n) ≡ count_of (owns t o) n
unfolding entries_to count_of
entries-count t o zero = refl
entries-count t o (suc n) = go (owns t o n) (entries-count t o n)
  where
    go : (b : Bool) → length (entries_to t o n) ≡ count_of (owns t o) n
        → length (cond b (held (slot t n) ∷ entries_to t o n) (entries_to t o n)) ≡ cond b (suc (count_of (owns t o) n)) (count_of (owns t o) n)
    go true h = ap suc h
    go false h = h

module _ (t : List ℕ) (f : Formed t) (o : ℕ) (v : is_owner o ≡ true) where
  -- an owner's slot has the tag of what it holds
  key-of : (i : ℕ) → i < slots → owner_at t i ≡ o → (tag (slot t i) ≡ suc (joined o (key_of (held (slot t i))))) × (0 < length (held (slot t i)))
  key-of i l e =
      let n : owner_at t i ≡ 0 → ⊥ = λ z. not_none o v (sym e ∙ z) in
      (tag-used (slot t i) n ∙ ap (λ (x : ℕ). suc (joined x (key_of (held (slot t i))))) e, omega (arith, (used-size (slot t i) (f.well i l) n).0))

  entries-absent : (k n : ℕ) → n ≤ slots → ((j : ℕ) → j < n → tag (slot t j) ≡ suc (joined o k) → ⊥) → stored_under (entries_to t o n) k ≡ []
  unfolding entries_to stored_under
  entries-absent k zero l a = refl
  entries-absent k (suc n) l a = go (ℕ_discrete (owner_at t n) o) (entries-absent k n (omega arith) (λ j h. a j (omega arith)))
    where
      go : Dec (owner_at t n ≡ o) → stored_under (entries_to t o n) k ≡ [] → stored_under (entries_to t o (suc n)) k ≡ []
      go (no e) h = ap (λ (d : Dict). stored_under d k) (entry_other t o n e) ∙ h
      go (yes e) h =
          ap (λ (d : Dict). stored_under d k) (entry-own t o n e)
          ∙ lookup-on (held (slot t n)) (entries_to t o n) k (λ q. a n (omega arith) ((key-of n (omega arith) e).0 ∙ ap (λ (x : ℕ). suc (joined o x)) q)) ∙ h

  entries-holds : (k i n : ℕ) → n ≤ slots → i < n → tag (slot t i) ≡ suc (joined o k) → stored_under (entries_to t o n) k ≡ held (slot t i)
  entries-holds k i zero l h e = absurd (omega arith)
  entries-holds k i (suc n) l h e = go (ℕ_discrete i n) (ℕ_discrete (owner_at t n) o) (λ q. entries-holds k i n (omega arith) q e)
    where
      says : (owner_at t i ≡ o) × (key_of (held (slot t i)) ≡ k)
      says = tag-says (slot t i) (f.well i (omega arith)) o k v e

      go : Dec (i ≡ n) → Dec (owner_at t n ≡ o) → (i < n → stored_under (entries_to t o n) k ≡ held (slot t i)) → stored_under (entries_to t o (suc n)) k ≡ held (slot t i)
      go (yes q) (no z) r = absurd (z (ap (owner_at t) (sym q) ∙ says.0))
      go (yes q) (yes z) r =
          ap (λ (d : Dict). stored_under d k) (entry-own t o n z)
          ∙ lookup-hit (held (slot t n)) (entries_to t o n) k (ap (λ (j : ℕ). key_of (held (slot t j))) (sym q) ∙ says.1) ∙ ap (λ (j : ℕ). held (slot t j)) (sym q)
      go (no q) (no z) r = ap (λ (d : Dict). stored_under d k) (entry_other t o n z) ∙ r (omega arith)
      go (no q) (yes z) r =
          ap (λ (d : Dict). stored_under d k) (entry-own t o n z)
          ∙ lookup-on (held (slot t n)) (entries_to t o n) k
          (λ c. q (distinct-at t f i n (omega arith) (omega arith) (joined o k) e ((key-of n (omega arith) z).0 ∙ ap (λ (x : ℕ). suc (joined o x)) c)))
          ∙ r (omega arith)

  entries-sound : (n : ℕ) → n ≤ slots → Sound (entries_to t o n)
  unfolding entries_to
  entries-sound zero l = tt
  entries-sound (suc n) l = go (ℕ_discrete (owner_at t n) o) (entries-sound n (omega arith))
    where
      go : Dec (owner_at t n ≡ o) → Sound (entries_to t o n) → Sound (entries_to t o (suc n))
      go (no e) h = subst Sound (sym (entry_other t o n e)) h
      go (yes e) h =
          let k : ℕ = key_of (held (slot t n)) in
          let q = key-of n (omega arith) e in
          subst Sound (sym (entry-own t o n e))
          (q.1, entries-absent k n (omega arith) (λ j m z. (let y : j ≡ n = distinct-at t f j n (omega arith) (omega arith) (joined o k) z q.0 in omega arith)), h)

pub entries-same : (t : List ℕ) → Formed t → Same t (entries t)
unfolding entries holding
entries-same t f =
    record {
      whole = f;
      looks = λ o k v. ⊎_elim
          (λ (h : Holds t (joined o k) (look t (joined o k))). entries-holds t f o v k h.at slots (omega arith) h.low h.key ∙ h.message)
          (λ (a : Absent t (joined o k)). entries-absent t f o v k slots (omega arith) a ∙ sym (look-absent t (joined o k) a)) (look-cases t (joined o k));
      sound = λ o v. entries-sound t f o v slots (omega arith);
      count = λ o v. entries-count t o slots;
    }

-- DEMAND 2, the table, whole: a well-formed table replies to any list of calls by any owners as the dictionaries of what it held at first
pub replies-same : (t : List ℕ) → well_formed t ≡ true → (cs : List Call) → replies walk t cs ≡ replies dictionaries (entries t) cs
replies-same t w cs = same-replies cs t (entries t) (entries-same t (formed t w))

-- ---- a fresh table: memory that is all zero is a table, and no owner holds a slot of it

pub fresh-formed : well_formed fresh ≡ true
unfolding well_formed well_slots first_of flawed well_slot all_zero new_key tag slot holding count_of owns
fresh-formed = refl

pub fresh-empty : (o : ℕ) → is_owner o ≡ true → entries fresh o ≡ []
unfolding entries entries_to owns slot
fresh-empty o v = by-owner (λ p. entries fresh p ≡ []) o v refl refl
