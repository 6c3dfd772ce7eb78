-- The row of a record as its reader is given it and as its writer hands it on.
-- Assumes nothing.
use Rattle.std.proofs.Common.{Option}
use Prim.Native.Nat.{ℕ, suc}
use native.Mathlib.Omega.{arith}
use mathlib.Core.Path.{◌≡◌, refl, sym, ap, ◌∙◌}
use mathlib.Core.Bool.{Bool, true, false}
use mathlib.Core.List.{List, [], ◌∷◌}
use borrow.Author.Tests.{ne_eqb}
use lib.IntN.{ℤ, pos}
use lib.ListN.{length, take, replicate}
use lib.Seq.{take-append_seam}
use Rattle.arith.specs.Inner.{padded}
use Rattle.layout.specs.Layout.{row_of, answered, stored}
use Rattle.std.specs.Prelude.{unwrap_or, Some, None}
use Rattle.record_rows.specs.declared.Row.{Row}
use Rattle.record_rows.specs.Numbers.{says, values_of, present_of}
use Rattle.record_rows.proofs.Rows.{says-filled}
use Rattle.record_rows.specs.Inner.{present_padded, buffers, numbers}
use Rattle.message_rows.specs.Message.{values_read, present_read, kind_refusal, kind_row, kind_write_refusal, write_kind}
use Rattle.message_records.specs.Kinds.{write_record}
use Rattle.message_rows.specs.Inner.{kind_room_refusal}
use Rattle.message_rows.proofs.OneKind.{kind-room, kind-says}

-- ---- reading

pub read-refusal : (lo hi : ℕ) (s : List ℕ) {r : ℕ} → r ≡ kind_room_refusal lo hi s 96 96 → r ≡ kind_refusal lo hi s
read-refusal lo hi s e = e ∙ kind-room lo hi s

-- buffers that a kind was read to say its row, whatever record is made of it
pub read-record : {A : Type 0} (lo hi : ℕ) (s : List ℕ) (f : (ℕ → Option ℤ) → A) {z : List ℤ} {b : List ℕ}
    → z ≡ values_read (kind_room_refusal lo hi s 96 96) s (replicate 96 (pos 0))
    → b ≡ present_read (kind_room_refusal lo hi s 96 96) s (replicate 96 1)
    → f (says (row_of z b)) ≡ f (says (kind_row lo hi s))
read-record lo hi s f p q = (λ i. f (says (row_of (p i) (q i)))) ∙ (λ i. f (λ k. kind-says lo hi s k i))

-- buffers of 96 values 0 that are present say the row of a refused message, whatever record is made of it
pub refused-record : {A : Type 0} (lo hi : ℕ) (s : List ℕ) (f : (ℕ → Option ℤ) → A) → (kind_refusal lo hi s ≡ 0 → ⊥)
    → f (says (row_of (replicate 96 (pos 0)) (replicate 96 1))) ≡ f (says (kind_row lo hi s))
unfolding kind_row
refused-record lo hi s f e = rw (ne_eqb (kind_refusal lo hi s) 0 e) (λ i. f (λ k. says-filled [] 96 96 k i))

-- ---- writing

-- both buffers of a row are of one length
same_count : (v : List (Option ℤ)) → length (present_of v) ≡ length (values_of v)
same_count [] = refl
same_count (r ∷ v) = ap (λ (n : ℕ). suc n) (same_count v)

-- a row of good names holds what the places v say
pub record Held (row : Row) (good : Bool) (v : List (Option ℤ)) : Type 0 where
  pub named : good ≡ true
  pub values : take row.count row.values ≡ values_of v
  pub present : take row.count row.present ≡ present_of v

pub held_row : (row : Row) (good : Bool) (v : List (Option ℤ)) → Some row ≡ numbers good v → Held row good v
unfolding buffers padded present_padded
held_row row true v e =
    let p = ap (λ (o : Option Row). unwrap_or o row) e in
    record {
      named = refl;
      values = ap (λ (r : Row). take r.count r.values) p ∙ take-append_seam (values_of v) _;
      present = ap (λ (r : Row). take r.count r.present) p ∙ ap (λ (k : ℕ). take k (present_padded (present_of v))) (sym (same_count v)) ∙ take-append_seam (present_of v) _;
    }
held_row row false v e = absurd (grind arith)

pub no_row : (good : Bool) (v : List (Option ℤ)) → None ≡ numbers good v → good ≡ false
unfolding buffers
no_row true v e = absurd (grind arith)
no_row false v e = refl

module _ {f l lo hi : ℕ} (first : f ≡ lo) (last : l ≡ hi) (good : Bool) (v : List (Option ℤ)) (out : List ℕ) where
  -- a row that holds what the places say
  pub of_row : {z : List ℤ} {b : List ℕ} (row : Row) → Some row ≡ numbers good v → z ≡ take row.count row.values → b ≡ take row.count row.present
      → write_kind f l true z b out ≡ write_record lo hi good v out
  of_row row e p q =
      let h = held_row row good v e in
      λ i. write_kind (first i) (last i) (sym h.named i) ((p ∙ h.values) i) ((q ∙ h.present) i) out

  -- a record with a bad name is refused whatever its row is
  pub of_none : None ≡ numbers good v → write_kind f l false [] [] out ≡ write_record lo hi good v out
  of_none e =
      refused lo hi ∙ (λ i. write_kind lo hi (sym (no_row good v e) i) (values_of v) (present_of v) out)
    where
      refused : (j k : ℕ) → write_kind f l false [] [] out ≡ write_kind j k false (values_of v) (present_of v) out
      refused j k = unfold kind_write_refusal answered stored in refl
