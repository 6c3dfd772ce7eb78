-- How many slots an owner holds after a slot is replaced, and how many are used. Rests on the laws of replaced slots and of counts.
-- Assumes nothing.
use Prim.Native.Nat.{ℕ, suc, ◌+◌, ◌≤◌, ◌<◌}
use mathlib.Core.Bool.{not, ◌||◌}
use mathlib.Core.List.{List}
use mathlib.Core.Path.{◌≡◌, sym, ap, ◌∙◌}
use native.Mathlib.Decide.{ℕ_discrete}
use lib.ListN.{length}
use lib.Dec.{eqb}
use borrow.Author.Tests.{eq-eqb, ne_eqb, eqb-true}
use Rattle.table_slots.specs.Slots.{slots, message_size, table_size, is_owner, slot, owner_at}
use Rattle.table.specs.Table.{owns, holding, is_used, used_slots, put}
use Rattle.table.proofs.Whole.{Formed}
use Rattle.table_slots.proofs.Slot.{used-of}
use Rattle.table.proofs.Count.{count_same, count-up, count-sum}
use Rattle.table_history.proofs.Put.{owner-same, owner-other}

module _ (t m : List ℕ) (i o : ℕ) (size : length t ≡ table_size) (low : i < slots) (short : length m ≤ message_size) (p : ℕ) where
  abbrev t' : List ℕ
  t' = put t i o m

  apart : (j : ℕ) → j < slots → (j ≡ i → ⊥) → owns t p j ≡ owns t' p j
  unfolding owns
  apart j l n = ap (λ (x : ℕ). eqb x p) (sym (owner-other t m i o size low short j l n))

  new : owner_at t' i ≡ o
  new = owner-same t m i o size low short

  -- a slot taken, and a slot given back
  pub hold-up : (owner_at t i ≡ p → ⊥) → o ≡ p → holding t' p ≡ suc (holding t p)
  unfolding holding owns
  hold-up a b = count-up (owns t p) (owns t' p) slots i low apart (ne_eqb _ p a) (eq-eqb _ p (new ∙ b))

  pub hold-down : owner_at t i ≡ p → (o ≡ p → ⊥) → holding t p ≡ suc (holding t' p)
  unfolding holding owns
  hold-down a b = count-up (owns t' p) (owns t p) slots i low (λ j l n. sym (apart j l n)) (ne_eqb _ p (λ z. b (sym new ∙ z))) (eq-eqb _ p a)

  hold-same : eqb (owner_at t i) p ≡ eqb o p → holding t' p ≡ holding t p
  unfolding holding owns
  hold-same a = sym (count_same (owns t p) (owns t' p) slots (λ j l. go j l (ℕ_discrete j i)))
    where
      go : (j : ℕ) → j < slots → Dec (j ≡ i) → owns t p j ≡ owns t' p j
      go j l (yes e) = ap (λ (k : ℕ). eqb (owner_at t k) p) e ∙ a ∙ ap (λ (x : ℕ). eqb x p) (sym new) ∙ ap (λ (k : ℕ). eqb (owner_at t' k) p) (sym e)
      go j l (no n) = apart j l n

  -- a slot of the same owner as before, and a slot that is another's before and after
  pub hold-again : owner_at t i ≡ o → holding t' p ≡ holding t p
  hold-again e = hold-same (ap (λ (x : ℕ). eqb x p) e)

  pub hold-kept : (owner_at t i ≡ p → ⊥) → (o ≡ p → ⊥) → holding t' p ≡ holding t p
  hold-kept a b = hold-same (ne_eqb _ p a ∙ sym (ne_eqb o p b))

-- every slot is used by owner 1, used by owner 2, or free
pub used-sum : (t : List ℕ) → Formed t → used_slots t ≡ holding t 1 + holding t 2
unfolding used_slots is_used holding owns is_owner
used-sum t f = count-sum (is_used t) (owns t 1) (owns t 2) slots (λ j l. either j l (ℕ_discrete (owner_at t j) 0)) (λ j l e. let z : owner_at t j ≡ 1 = eqb-true _ 1 e in rw z)
  where
    either : (j : ℕ) → j < slots → Dec (owner_at t j ≡ 0) → not (eqb (owner_at t j) 0) ≡ (eqb (owner_at t j) 1 || eqb (owner_at t j) 2)
    either j l (yes e) = rw e
    either j l (no n) = rw (ne_eqb (owner_at t j) 0 n) (sym (used-of (slot t j) (f.well j l) n).owner)
