-- Both round trips of rows: an accepted message written again gives the same bytes, and a row that is written reads back as itself.
-- Assumes nothing.
use Rattle.std.proofs.Common.{Option, Some}
use Prim.Native.Nat.{ℕ, zero, suc, ◌+◌, ◌*◌, ◌≤◌, ◌<◌}
use native.Mathlib.Omega.{arith}
use native.Mathlib.Nat.{zero-add, add-zero, add_assoc, lt_irrefl, eq-or-lt_of_le}
use mathlib.Core.Path.{◌≡◌, refl, sym, ap, subst, ◌∙◌}
use mathlib.Core.Logic.{⊎_elim}
use mathlib.Core.Bool.{Bool, true, false, not, cond}
use mathlib.Core.List.{List, [], ◌∷◌, ◌++◌, append_assoc}
use native.Mathlib.Decide.{dec_le}
use lib.Dec.{leb}
use lib.IntN.{ℤ, pos}
use lib.ListN.{length, get_or, take, replicate, length-replicate}
use borrow.Author.Tests.{le-ltb, le-leb, leb-true}
use Rattle.arith.specs.Whole.{natural}
use Rattle.arith.proofs.First.{passed, not-false}
use Rattle.arith.proofs.Tests.{both_first, both-second}
use Rattle.field.specs.Field.{field}
use Rattle.field.proofs.Bit.{Bytes, field_lt}
use Rattle.layout.specs.Layout.{uint, width, reading_of, all_take, total, size, row_of, decode_all, encode_all}
use Rattle.layout.specs.Inner.{refusal_of, encode_refusal}
use Rattle.layout.proofs.Round.{total-append, total-times, value-at, of-true, read-written, accepted, accepted-kept, Writable, writable, written-accepted, length-encode_all, taken-all, taken_back, row_in, all-taken}
use Rattle.record_rows.specs.Numbers.{says, number_at, counter_at, values_of, present_of}
use Rattle.layout_tables.specs.Layouts.{known, named, names, tail1021, tail1022, layout1021, layout1022, layout1023, layout1024, layout1025, layout1026, layout1027, layout_of}
use Rattle.layout_tables.proofs.Length.{by_number, unnamed-layout}
use Rattle.message_rows.specs.Message.{number_of, source_count, target_count, sin_bit, layout, refusal, row, row_layout, write_refusal, message}
use Rattle.message_rows.proofs.Head.{Head, head_of, head-passes, accepted-head, head_passed, row_of_lem, source-lt}
use Rattle.message_rows.proofs.Sin.{total-least}

-- ---- what the first fields of a message say

pub number-at : (k n m : ℕ) (s : List ℕ) → 1021 ≤ k → k ≤ 1027 → says (decode_all (layout_of k n m) 0 s) 0 ≡ Some (pos (number_of s))
unfolding layout_of layout1021 layout1022 layout1023 layout1024 layout1025 layout1026 layout1027 decode_all
number-at k n m s lo hi =
    by_number (λ j. says (decode_all (layout_of j n m) 0 s) 0 ≡ Some (pos (number_of s))) k lo hi refl refl refl refl refl refl refl

pub source-at : (n m : ℕ) (tail s : List ℕ) → says (decode_all (names n m ++ tail) 0 s) 1 ≡ Some (pos (source_count s))
unfolding decode_all
source-at n m tail s = refl

-- the counter of the second name stands behind the first
unfoldable pub front : ℕ → List ℕ
front n = (uint 12 ∷ uint 5 ∷ []) ++ replicate n (uint 8)

total-front : (n : ℕ) → total (front n) ≡ 17 + 8 * n
unfolding front total
total-front n = total-append (uint 12 ∷ uint 5 ∷ []) (replicate n (uint 8)) ∙ omega (arith, total-times n (uint 8))

pub length_front : (n : ℕ) → length (front n) ≡ 2 + n
unfolding front
length_front n = simp length-replicate (omega arith)

pub names-split : (n m : ℕ) (tail : List ℕ) → names n m ++ tail ≡ front n ++ (uint 5 ∷ (replicate m (uint 8) ++ tail))
unfolding front
names-split n m tail =
    ap (λ (l : List ℕ). l ++ tail) (append_assoc (front n) (uint 5 ∷ []) (replicate m (uint 8)))
    ∙ append_assoc (front n) (uint 5 ∷ replicate m (uint 8)) tail

pub target_at : (n m : ℕ) (tail s : List ℕ) → says (decode_all (names n m ++ tail) 0 s) (2 + n) ≡ Some (pos (field s (17 + 8 * n) 5))
target_at n m tail s =
    ap (λ (l : List ℕ). says (decode_all l 0 s) (2 + n)) (names-split n m tail)
    ∙ ap (says (decode_all (front n ++ (uint 5 ∷ (replicate m (uint 8) ++ tail))) 0 s)) (sym (length_front n))
    ∙ value-at (front n) (uint 5) (replicate m (uint 8) ++ tail) 0 s
    ∙ ap (λ (q : ℕ). Some (pos (field s q 5))) (zero-add (total (front n)) ∙ total-front n)

-- ---- what any field says

decoded-place : (es : List ℕ) (p : ℕ) (s : List ℕ) (k : ℕ) → k < length es
    → says (decode_all es p s) k ≡ reading_of (get_or es k 0) (field s (p + total (take k es)) (width (get_or es k 0)))
unfolding decode_all total
decoded-place [] p s k h = absurd (lt_irrefl 0 (omega arith))
decoded-place (e ∷ es) p s zero h = ap (λ (q : ℕ). reading_of e (field s q (width e))) (sym (add-zero p))
decoded-place (e ∷ es) p s (suc k) h =
    decoded-place es (p + width e) s k (omega arith)
    ∙ ap (λ (q : ℕ). reading_of (get_or es k 0) (field s q (width (get_or es k 0)))) (add_assoc p (width e) (total (take k es)))

-- ---- the layout that a read row calls for

counter-of : (v : ℕ → Option ℤ) (k n : ℕ) → v k ≡ Some (pos n) → n < 32 → counter_at v k ≡ n
counter-of v k n e h = rw (e, le-leb n 31 (omega arith))

-- of 1021 and 1022: both counters of the bytes
pub record Counted (k n m : ℕ) (s : List ℕ) : Type 0 where
  pub source : says (decode_all (layout_of k n m) 0 s) 1 ≡ Some (pos (source_count s))
  pub target : says (decode_all (layout_of k n m) 0 s) (2 + n) ≡ Some (pos (field s (17 + 8 * n) 5))

pub counted : (k n m : ℕ) (s : List ℕ) → 1021 ≤ k → k ≤ 1022 → Counted k n m s
unfolding layout_of layout1021 layout1022
counted k n m s lo hi =
    ⊎_elim
    (λ (q : 1021 ≡ k). subst (λ (j : ℕ). Counted j n m s) q (record { source = source-at n m tail1021 s; target = target_at n m tail1021 s }))
    (λ (l : 1021 < k).
    let q : 1022 ≡ k = omega arith in
    subst (λ (j : ℕ). Counted j n m s) q (record { source = source-at n m tail1022 s; target = target_at n m tail1022 s }))
    (eq-or-lt_of_le lo)

-- the number of a row, where its first field says it
number-of : (v : ℕ → Option ℤ) (n : ℕ) → v 0 ≡ Some (pos n) → natural (number_at v 0) ≡ n
number-of v n e = rw e

-- the row of bytes read by the layout of k, n and m calls for that layout, where the bytes have these counters
pub same_layout : (k n m : ℕ) (s : List ℕ) → 1021 ≤ k → k ≤ 1027 → number_of s ≡ k
    → (k ≤ 1022 → (source_count s ≡ n) × (target_count s ≡ m)) → row_layout (decode_all (layout_of k n m) 0 s) ≡ layout_of k n m
unfolding row_layout
same_layout k n m s lo hi e c = by (dec_le k 1022)
  where
    v : ℕ → Option ℤ
    v = says (decode_all (layout_of k n m) 0 s)

    number : natural (number_at v 0) ≡ k
    number = number-of v (number_of s) (number-at k n m s lo hi) ∙ e

    by : Dec (k ≤ 1022) → layout_of (natural (number_at v 0)) (counter_at v 1) (counter_at v (2 + counter_at v 1)) ≡ layout_of k n m
    by (yes h) =
        let d = counted k n m s lo h in
        let f : source_count s ≡ n = (c h).0 in
        let a : counter_at v 1 ≡ n = counter-of v 1 (source_count s) d.source (source-lt s) ∙ f in
        let b : counter_at v (2 + n) ≡ m =
        counter-of v (2 + n) (field s (17 + 8 * n) 5) d.target (field_lt s (17 + 8 * n) 5) ∙ ap (λ (x : ℕ). field s (17 + 8 * x) 5) (sym f) ∙ (c h).1 in
        rw (number, a, b)
    by (no h) = rw number (unnamed-layout k _ _ n m (omega arith))

-- ---- an accepted message, read as a row and written again

module _ (s : List ℕ) (e : refusal s ≡ 0) where
  layout-accepted : refusal_of (layout s) s ≡ 0
  layout-accepted = sym (head_passed s (accepted-head s e)) ∙ e

  -- each field takes its place of the row
  pub row-taken : all_take (layout s) (row s) ≡ true
  row-taken = ap (all_take (layout s)) (row_of_lem s e) ∙ (accepted (layout s) s layout-accepted).ranged

  -- what a place of the row says
  pub row-place : (k : ℕ) → k < length (layout s) → says (row s) k ≡ reading_of (get_or (layout s) k 0) (field s (total (take k (layout s))) (width (get_or (layout s) k 0)))
  row-place k h =
      ap (λ (v : List (Option ℤ)). says v k) (row_of_lem s e) ∙ decoded-place (layout s) 0 s k h
      ∙ ap (λ (q : ℕ). reading_of (get_or (layout s) k 0) (field s q (width (get_or (layout s) k 0)))) (zero-add (total (take k (layout s))))

  pub row-layout-of : row_layout (row s) ≡ layout s
  unfolding layout
  row-layout-of =
      let h = head_of s (accepted-head s e) in
      ap row_layout (row_of_lem s e) ∙ same_layout (number_of s) (source_count s) (target_count s) s h.low h.high refl (λ _. (refl, refl))

  pub message-of-row : Bytes s → message (row s) ≡ s
  unfolding message
  message-of-row b =
      ap (λ (l : List ℕ). encode_all l (row s)) row-layout-of
      ∙ ap (encode_all (layout s)) (row_of_lem s e)
      ∙ accepted-kept (layout s) s b layout-accepted

  -- the number of the row is the message's
  pub row_number : natural (number_at (says (row s)) 0) ≡ number_of s
  unfolding layout
  row_number =
      let h = head_of s (accepted-head s e) in
      number-of (says (row s)) (number_of s) (ap (λ (v : List (Option ℤ)). says v 0) (row_of_lem s e) ∙ number-at (number_of s) (source_count s) (target_count s) s h.low h.high)

  -- and it is written wherever there is room for it
  pub row_written : (n : ℕ) → length s ≤ n → write_refusal (values_of (row s)) (present_of (row s)) n ≡ 0
  unfolding write_refusal
  row_written n r =
      let h = head_of s (accepted-head s e) in
      let a = accepted (layout s) s layout-accepted in
      rw (
        row_in (row s),
        row_number,
        le-leb 1021 (number_of s) h.low,
        le-leb (number_of s) 1027 h.high,
        row-layout-of,
        le-ltb 96 (length (layout s)) a.few,
        all-taken (layout s) (row s) row-taken,
        le-ltb n (size (layout s)) (omega (arith, a.sized)),
      )

-- ---- a row that is written, read again

-- DF147 begins behind the number, and behind both counters where there are names
sin-least : (s : List ℕ) → 12 ≤ sin_bit s
sin-least s = by (named (number_of s))
  where
    by : (b : Bool) → 12 ≤ cond b (22 + 8 * (source_count s + target_count s)) 12
    by true = omega arith
    by false = omega arith

sin-named : (s : List ℕ) → number_of s ≤ 1022 → 22 + 8 * source_count s ≤ sin_bit s
sin-named s h = rw (le-leb (number_of s) 1022 h) (omega arith)

-- a message of the length that it calls for has both counters
pub sized-head : (s : List ℕ) → 1021 ≤ number_of s → number_of s ≤ 1027 → length s ≡ size (layout s) → Head s
sized-head s lo hi n =
    let t = total-least s lo hi in
    record {
      long = omega (arith, sin-least s);
      low = lo;
      high = hi;
      counted = λ m. (omega (arith, sin-least s), omega (arith, sin-named s m));
    }

pub record Known (v : ℕ → Option ℤ) : Type 0 where
  pub low : 1021 ≤ natural (number_at v 0)
  pub high : natural (number_at v 0) ≤ 1027

module _ (z : List ℤ) (b : List ℕ) (n : ℕ) (e : write_refusal z b n ≡ 0) where
  abbrev v : List (Option ℤ)
  v = row_of z b

  abbrev number : ℕ
  number = natural (number_at (says v) 0)

  known-row : Known (says v)
  unfolding write_refusal
  known-row =
      let k = not-false (known number) (passed 4 (not (known number)) _ e).0 in
      record {
        low = leb-true 1021 number (both_first (leb 1021 number) (leb number 1027) k);
        high = leb-true number 1027 (both-second (leb 1021 number) (leb number 1027) k);
      }

  written : Writable (row_layout v) z b n
  unfolding write_refusal encode_refusal
  written = writable (row_layout v) z b n (passed 4 (not (known number)) _ e).1

  -- the buffers of the row are the ones that were given
  pub buffers-back : (values_of (row_of z b) ≡ z) × (present_of (row_of z b) ≡ b)
  buffers-back = taken_back (row_layout v) z b written.taken

  pub fields_back : decode_all (row_layout (row_of z b)) 0 (message (row_of z b)) ≡ row_of z b
  unfolding message
  fields_back = read-written (row_layout v) v (of-true (taken-all (row_layout v) z b written.taken))

  pub number-back : natural (number_at (says (row_of z b)) 0) ≡ number_of (message (row_of z b))
  unfolding row_layout
  number-back =
      number-of (says v) (number_of (message v)) (ap (λ (w : List (Option ℤ)). says w 0) (sym fields_back) ∙ number-at _ _ _ (message v) known-row.low known-row.high)

  counters-back : number ≤ 1022 → (counter_at (says v) 1 ≡ source_count (message v)) × (counter_at (says v) (2 + counter_at (says v) 1) ≡ target_count (message v))
  unfolding row_layout
  counters-back h =
      let s : List ℕ = message v in
      let i : ℕ = counter_at (says v) 1 in
      let j : ℕ = counter_at (says v) (2 + i) in
      let d = counted number i j s known-row.low h in
      let a : i ≡ source_count s = counter-of (says v) 1 (source_count s) (ap (λ (w : List (Option ℤ)). says w 1) (sym fields_back) ∙ d.source) (source-lt s) in
      let t : j ≡ field s (17 + 8 * i) 5 =
      counter-of (says v) (2 + i) (field s (17 + 8 * i) 5) (ap (λ (w : List (Option ℤ)). says w (2 + i)) (sym fields_back) ∙ d.target) (field_lt s (17 + 8 * i) 5) in
      (a, t ∙ ap (λ (x : ℕ). field s (17 + 8 * x) 5) a)

  pub layout-back : layout (message (row_of z b)) ≡ row_layout (row_of z b)
  layout-back = by (dec_le number 1022)
    where
      by : Dec (number ≤ 1022) → layout (message v) ≡ row_layout v
      by (yes h) =
          unfold layout row_layout in
          let c = counters-back h in
          ap (λ (k : ℕ). layout_of k (source_count (message v)) (target_count (message v))) (sym number-back)
          ∙ ap (λ (i : ℕ). layout_of number i (target_count (message v))) (sym c.0)
          ∙ ap (layout_of number (counter_at (says v) 1)) (sym c.1)
      by (no h) =
          unfold layout row_layout in
          ap (λ (k : ℕ). layout_of k (source_count (message v)) (target_count (message v))) (sym number-back)
          ∙ unnamed-layout number _ _ _ _ (omega arith)

  pub length-message : length (message (row_of z b)) ≡ size (row_layout (row_of z b))
  unfolding message
  length-message = length-encode_all (row_layout v) v

  head-back : Head (message v)
  head-back =
      sized-head (message v) (subst (λ (k : ℕ). 1021 ≤ k) number-back known-row.low) (subst (λ (k : ℕ). k ≤ 1027) number-back known-row.high)
      (length-message ∙ ap size (sym layout-back))

  -- THE ROUND TRIP of a row
  pub message-accepted : refusal (message (row_of z b)) ≡ 0
  message-accepted =
      head_passed (message v) (head-passes (message v) head-back)
      ∙ ap (λ (l : List ℕ). refusal_of l (message v)) layout-back
      ∙ unfold message in written-accepted (row_layout v) v written.few (taken-all (row_layout v) z b written.taken)

  pub row-of-message : row (message (row_of z b)) ≡ row_of z b
  row-of-message = row_of_lem (message v) message-accepted ∙ ap (λ (l : List ℕ). decode_all l 0 (message v)) layout-back ∙ fields_back

  pub buffers-of-message : (values_of (row (message (row_of z b))) ≡ z) × (present_of (row (message (row_of z b))) ≡ b)
  buffers-of-message = rw row-of-message buffers-back
