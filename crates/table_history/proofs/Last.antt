-- A refused call changes nothing, a well-formed table stays so, and it holds under each key of an owner what the owner last stored there and did not remove since. Rests on the laws of one call.
-- Assumes nothing.
use Prim.Native.Nat.{ℕ, ◌<◌}
use mathlib.Core.Bool.{Bool, true, false, cond, ◌&&◌}
use mathlib.Core.List.{List, [], ◌∷◌}
use mathlib.Core.Path.{◌≡◌, refl, sym, ap, ◌∙◌}
use native.Mathlib.Omega.{arith}
use native.Mathlib.Decide.{dec_lt, ℕ_discrete}
use lib.Dec.{eqb}
use borrow.Author.Tests.{eq-eqb, ne_eqb}
use Rattle.message_rows.specs.Message.{refusal}
use Rattle.table_slots.specs.Slots.{slots, is_owner, key, key_of, joined}
use Rattle.table.specs.Table.{well_formed, put, store_place, store_refusal, store_table, key_place, find_refusal, remove_table}
use Rattle.table_history.specs.History.{Ask, store, find, remove, Call, after_all, log_of, left_under, last_of}
use Rattle.table_history.specs.Private.{number, after, walk}
use Rattle.table.proofs.Whole.{Formed, formed, well-formed}
use Rattle.table.proofs.Calls.{Store, Find, store_kept, remove-kept, store-owner, store-refused, store-full, store-done, find-owner, find_none, find-done}
use Rattle.table_slots.proofs.Owner.{joined_same}
use Rattle.table_history.proofs.Look.{look}
use Rattle.table_history.proofs.Step.{store-formed, store_same, store_other, remove-formed, remove-same, remove-other}

-- what one call leaves: with n and t' its number and the table after it
abbrev pub Kept : List ℕ → ℕ → List ℕ → ℕ → Ask → Type 0
Kept t n t' o a =
    Formed t' × ((p k : ℕ) → is_owner p ≡ true → look t' (joined p k) ≡ cond (eqb o p && eqb n 0) (left_under k (look t (joined p k)) a) (look t (joined p k)))

-- a refused call
refused : (t : List ℕ) (n o : ℕ) (a : Ask) → Formed t → (n ≡ 0 → ⊥) → Kept t n t o a
refused t n o a f h = (f, λ p k u. rw (ne_eqb n 0 h) (by (eqb o p) (left_under k (look t (joined p k)) a) (look t (joined p k))))
  where
    by : (b : Bool) (x y : List ℕ) → y ≡ cond (b && false) x y
    by true x y = refl
    by false x y = refl

-- a call answered 0, which changes what is under the caller's key j from one thing to another
done : (t t' : List ℕ) (o j : ℕ) (m : List ℕ) (a : Ask) → is_owner o ≡ true → ((k : ℕ) (old : List ℕ) → left_under k old a ≡ cond (eqb j k) m old)
    → look t' (joined o j) ≡ m → ((k : ℕ) → (k ≡ joined o j → ⊥) → look t' k ≡ look t k)
    → (p k : ℕ) → is_owner p ≡ true → look t' (joined p k) ≡ cond (eqb o p && true) (left_under k (look t (joined p k)) a) (look t (joined p k))
done t t' o j m a v tells same other p k u = go (ℕ_discrete o p) (ℕ_discrete j k)
  where
    go : Dec (o ≡ p) → Dec (j ≡ k) → look t' (joined p k) ≡ cond (eqb o p && true) (left_under k (look t (joined p k)) a) (look t (joined p k))
    go (no n) d = rw (ne_eqb o p n) (other (joined p k) (λ z. n (sym (joined_same p o k j u v z).0)))
    go (yes q) (yes e) = rw (eq-eqb o p q, tells k (look t (joined p k)), eq-eqb j k e) (ap (look t') (ap (λ (x : ℕ). joined x k) (sym q) ∙ ap (joined o) (sym e)) ∙ same)
    go (yes q) (no n) = rw (eq-eqb o p q, tells k (look t (joined p k)), ne_eqb j k n) (other (joined p k) (λ z. n (sym (joined_same p o k j u v z).1)))

stored : (t : List ℕ) (o : ℕ) (m : List ℕ) (f : Formed t) (v : is_owner o ≡ true) (a : refusal m ≡ 0) (l : store_place t o m < slots)
    → Kept t 0 (put t (store_place t o m) o m) o (store m)
unfolding left_under
stored t o m f v a l =
    (store-formed t o m f v a l, done t _ o (key_of m) m (store m) v (λ k old. refl) (store_same t o m f v a l) (store_other t o m f v a l))

removed : (t : List ℕ) (o s g : ℕ) (f : Formed t) (v : is_owner o ≡ true) (l : key_place t o s g < slots)
    → Kept t 0 (put t (key_place t o s g) 0 []) o (remove s g)
unfolding left_under
removed t o s g f v l =
    (remove-formed t o s g f v l, done t _ o (key s g) [] (remove s g) v (λ k old. refl) (remove-same t o s g f v l) (remove-other t o s g f v l))

move : (t : List ℕ) (n n' : ℕ) (u u' : List ℕ) (o : ℕ) (a : Ask) → n' ≡ n → u' ≡ u → Kept t n u o a → Kept t n' u' o a
move t n n' u u' o a p q k = (rw q k.0, λ r j w. rw (p, q) (k.1 r j w))

pub keep : (t : List ℕ) → Formed t → (o : ℕ) (a : Ask) → Kept t (number t o a) (after t o a) o a
unfolding number after left_under
keep t f o (store m) = go (is_owner o) refl (ℕ_discrete (refusal m) 0) (dec_lt (store_place t o m) slots)
  where
    keeps : (n : ℕ) → Store t o m n t → (n ≡ 0 → ⊥) → Kept t (store_refusal t o m) (store_table t o m) o (store m)
    keeps n s z = move t n (store_refusal t o m) t (store_table t o m) o (store m) s.number s.table (refused t n o (store m) f z)

    go : (b : Bool) → is_owner o ≡ b → Dec (refusal m ≡ 0) → Dec (store_place t o m < slots) → Kept t (store_refusal t o m) (store_table t o m) o (store m)
    go false v a d = keeps 21 (store-owner t o m (well-formed t f) v) (λ e. omega arith)
    go true v (no a) d = keeps (refusal m) (store-refused t o m (well-formed t f) v a) a
    go true v (yes a) (no d) = keeps 16 (store-full t o m (well-formed t f) v a (omega arith)) (λ e. omega arith)
    go true v (yes a) (yes d) =
        let s = store-done t o m (well-formed t f) v a d in
        move t 0 (store_refusal t o m) (put t (store_place t o m) o m) (store_table t o m) o (store m) s.number s.table (stored t o m f v a d)
keep t f o (find s g) = (f, λ p k u. same (eqb o p && eqb (find_refusal t o s g) 0) (look t (joined p k)))
  where
    same : (b : Bool) (l : List ℕ) → l ≡ cond b l l
    same true l = refl
    same false l = refl
keep t f o (remove s g) = go (is_owner o) refl (dec_lt (key_place t o s g) slots)
  where
    keeps : (n : ℕ) → Find t o s g n 0 0 t → (n ≡ 0 → ⊥) → Kept t (find_refusal t o s g) (remove_table t o s g) o (remove s g)
    keeps n r z = move t n (find_refusal t o s g) t (remove_table t o s g) o (remove s g) r.number r.table (refused t n o (remove s g) f z)

    go : (b : Bool) → is_owner o ≡ b → Dec (key_place t o s g < slots) → Kept t (find_refusal t o s g) (remove_table t o s g) o (remove s g)
    go false v d = keeps 21 (find-owner t o s g (well-formed t f) v) (λ e. omega arith)
    go true v (no d) = keeps 17 (find_none t o s g (well-formed t f) v (omega arith)) (λ e. omega arith)
    go true v (yes d) =
        let r = find-done t o s g (well-formed t f) v d in
        move t 0 (find_refusal t o s g) (put t (key_place t o s g) 0 []) (remove_table t o s g) o (remove s g) r.number r.table (removed t o s g f v d)

-- ---- one call, on any table and on a well-formed one

-- a refused call changes no byte
pub refused-keeps : (t : List ℕ) (o : ℕ) (a : Ask) → (number t o a ≡ 0 → ⊥) → after t o a ≡ t
unfolding number after
refused-keeps t o (store m) h = store_kept t o m h
refused-keeps t o (find s g) h = refl
refused-keeps t o (remove s g) h = remove-kept t o s g h

-- ---- a whole history

pub history-formed : (t : List ℕ) → Formed t → (cs : List Call) → Formed (after_all walk t cs)
unfolding after_all
history-formed t f [] = f
history-formed t f (c ∷ cs) = history-formed (after t c.owner c.ask) (keep t f c.owner c.ask).0 cs

pub stays-formed-all : (t : List ℕ) (cs : List Call) → well_formed t ≡ true → well_formed (after_all walk t cs) ≡ true
stays-formed-all t cs w = well-formed (after_all walk t cs) (history-formed t (formed t w) cs)

pub history : (t : List ℕ) → Formed t → (cs : List Call) (o k : ℕ) → is_owner o ≡ true
    → look (after_all walk t cs) (joined o k) ≡ last_of o k (look t (joined o k)) (log_of walk t cs)
unfolding after_all log_of last_of
history t f [] o k v = refl
history t f (c ∷ cs) o k v =
    let h = keep t f c.owner c.ask in
    history (after t c.owner c.ask) h.0 cs o k v
    ∙ ap (λ (l : List ℕ). last_of o k l (log_of walk (after t c.owner c.ask) cs)) (h.1 o k v)
