-- The mark of one slot, that every tag is below the number that is none, and the row of marks. Of the reader only its header and that a SIN is below 256.
-- Assumes nothing.
use Prim.Native.Nat.{ℕ, suc, ◌≤◌, ◌<◌}
use native.Mathlib.Omega.{arith}
use native.Mathlib.Decide.{dec_lt, ℕ_discrete}
use mathlib.Core.Path.{◌≡◌, ap, ◌∙◌}
use mathlib.Core.Bool.{Bool, true, false, cond}
use mathlib.Core.List.{List}
use lib.Dec.{leb}
use lib.ListN.{length, get_or, replicate, get_or-replicate, get_or-eq_default}
use borrow.Author.Tests.{eq-eqb, ne_eqb}
use Rattle.arith.specs.Lists.{up_to}
use Rattle.arith.proofs.Lists.{get_d-up_to}
use Rattle.message_rows.specs.declared.Header.{Header}
use Rattle.message_rows.specs.Message.{number_of, refusal, header}
use Rattle.message_rows.proofs.Limits.{sin-most}
use Rattle.table_slots.specs.Slots.{slots, table_size, group_of, key, key_of, joined, slot, held, well_slot, tag}
use Rattle.table_slots.specs.Inner.{no_tag, mark, mark_at, marks}
use Rattle.table_slots.proofs.Owner.{owner-range}
use Rattle.table_slots.proofs.Slot.{tag_free, tag-used, used-of}

-- ---- one mark

pub mark-well : (s : List ℕ) → well_slot s ≡ true → mark s ≡ tag s
unfolding mark
mark-well s w = rw w

pub mark-ill : (s : List ℕ) → well_slot s ≡ false → mark s ≡ no_tag
unfolding mark
mark-ill s w = rw w

pub group-most : (n : ℕ) → group_of n ≤ 2
group-most n = by (leb n 1022) (leb n 1024)
  where
    by : (a b : Bool) → cond a 0 (cond b 1 2) ≤ 2
    by true b = omega arith
    by false true = omega arith
    by false false = omega arith

-- every tag is below the number that is none
pub tag-most : (s : List ℕ) → well_slot s ≡ true → tag s < no_tag
unfolding key_of
tag-most s w = by (ℕ_discrete (get_or s 0 0) 0)
  where
    m : List ℕ
    m = held s

    by : Dec (get_or s 0 0 ≡ 0) → tag s < no_tag
    by (yes e) = omega (arith, tag_free s e)
    by (no n) = omega (arith, tag-used s n, (owner-range (get_or s 0 0) (used-of s w n).owner).1, sin-most m, group-most (number_of m))

-- what the reader's header says of a message
pub header-refusal : (m : List ℕ) (h : Header) → h ≡ header m → h.refusal ≡ refusal m
unfolding header
header-refusal m h e = ap (λ x. x.refusal) e

pub header-tag : (o : ℕ) (m : List ℕ) (h : Header) → h ≡ header m → refusal m ≡ 0
    → suc (joined o (key h.sin (group_of h.number))) ≡ suc (joined o (key_of m))
unfolding header key_of
header-tag o m h e a = ap (λ x. suc (joined o (key x.sin (group_of x.number)))) e ∙ rw a

-- ---- a row of them

module _ (t : List ℕ) (size : length t ≡ table_size) where
  marks-are : marks t ≡ up_to (mark_at t) slots
  unfolding marks
  marks-are = rw (eq-eqb (length t) table_size size)

  pub mark-in : (i : ℕ) → i < slots → get_or (marks t) i 0 ≡ mark (slot t i)
  unfolding mark_at
  mark-in i h = ap (λ (r : List ℕ). get_or r i 0) marks-are ∙ get_d-up_to (mark_at t) slots i 0 h

  pub mark_of : (i : ℕ) → i < slots → get_or (marks t) i no_tag ≡ mark (slot t i)
  unfolding mark_at
  mark_of i h = ap (λ (r : List ℕ). get_or r i no_tag) marks-are ∙ get_d-up_to (mark_at t) slots i no_tag h

  pub mark-behind : (i : ℕ) → slots ≤ i → get_or (marks t) i no_tag ≡ no_tag
  mark-behind i h = ap (λ (r : List ℕ). get_or r i no_tag) marks-are ∙ get_or-eq_default (up_to (mark_at t) slots) no_tag {n = i} (omega arith)

-- a table of another size has no tags
pub mark-other : (t : List ℕ) (i : ℕ) → (length t ≡ table_size → ⊥) → get_or (marks t) i no_tag ≡ no_tag
unfolding marks
mark-other t i n = rw (ne_eqb (length t) table_size n) (by (dec_lt i slots))
  where
    by : Dec (i < slots) → get_or (replicate slots no_tag) i no_tag ≡ no_tag
    by (yes h) = get_or-replicate slots i no_tag no_tag h
    by (no h) = get_or-eq_default (replicate slots no_tag) no_tag {n = i} (omega arith)
