-- What the row of an accepted 1021 or 1022 says of its names and of the unsigned places behind them.
-- Assumes nothing.
use Rattle.std.proofs.Common.{ℤ, Option, Some}
use Prim.Native.Nat.{ℕ, ◌+◌, ◌%◌, ◌<◌}
use native.Mathlib.Omega.{arith}
use native.Mathlib.Nat.{mod-eq_of_lt}
use mathlib.Core.Path.{◌≡◌, sym, ap, ◌∙◌}
use mathlib.Core.Bool.{false}
use mathlib.Core.List.{List, [], ◌∷◌, ◌++◌}
use lib.IntN.{pos}
use lib.ListN.{length, take, get_or, replicate, length-append, length-replicate, get_or-append, get_or-replicate}
use lib.Seq.{get_or-append-add}
use Rattle.arith.specs.Whole.{natural}
use Rattle.field.specs.Field.{field}
use Rattle.field.proofs.Bit.{field_lt}
use Rattle.layout.specs.Layout.{uint, width, signed, total, reading_of, value_in, decode_all}
use Rattle.layout.proofs.Round.{unsigned-value}
use Rattle.layout_tables.specs.Layouts.{names}
use Rattle.record_rows.specs.Numbers.{says, number_at}
use Rattle.record_rows.proofs.Rows.{Valued}
use Rattle.message_rows.specs.Message.{source_count, target_count, layout, refusal, row}
use Rattle.message_rows.proofs.Head.{row_of_lem}
use Rattle.message_rows.proofs.Trips.{front, names-split, length_front, source-at, target_at, row-taken, row-place}

-- the place k of an accepted message whose layout is l, where the field is unsigned
pub valued : (s l : List ℕ) → refusal s ≡ 0 → layout s ≡ l → (k : ℕ) → signed (get_or l k 0) ≡ false → Valued (says (row s) k)
valued s l e f k u = unsigned-value (layout s) (row s) (row-taken s e) k (ap (λ (x : List ℕ). signed (get_or x k 0)) f ∙ u)

-- ---- the entries of a layout with names of n and m characters

module _ (n m : ℕ) (tail : List ℕ) where
  source-entry : (j : ℕ) → j < n → get_or (names n m ++ tail) (2 + j) 0 ≡ uint 8
  source-entry j h =
      ap (λ (l : List ℕ). get_or l (2 + j) 0) (names-split n m tail)
      ∙ get_or-append (front n) _ 0 (2 + j) (omega (arith, length_front n))
      ∙ unfold front in (get_or-append-add (uint 12 ∷ uint 5 ∷ []) (replicate n (uint 8)) j 0 ∙ get_or-replicate n j (uint 8) 0 h)

  target-entry : (j : ℕ) → j < m → get_or (names n m ++ tail) (3 + n + j) 0 ≡ uint 8
  target-entry j h =
      let i : 3 + n + j ≡ length (front n) + (1 + j) = omega (arith, length_front n) in
      ap (λ (l : List ℕ). get_or l (3 + n + j) 0) (names-split n m tail)
      ∙ ap (λ (k : ℕ). get_or (front n ++ (uint 5 ∷ (replicate m (uint 8) ++ tail))) k 0) i
      ∙ get_or-append-add (front n) (uint 5 ∷ (replicate m (uint 8) ++ tail)) (1 + j) 0
      ∙ get_or-append-add (uint 5 ∷ []) (replicate m (uint 8) ++ tail) j 0
      ∙ get_or-append (replicate m (uint 8)) tail 0 j (omega (arith, length-replicate m (uint 8)))
      ∙ get_or-replicate m j (uint 8) 0 h

  length_both : length (names n m) ≡ 3 + n + m
  length_both = simp (length-append, length-replicate) (omega arith)

  length-names : length (names n m ++ tail) ≡ 3 + n + m + length tail
  length-names = length-append (names n m) tail ∙ ap (λ (k : ℕ). k + length tail) length_both

  behind-entry : (j : ℕ) → get_or (names n m ++ tail) (3 + n + m + j) 0 ≡ get_or tail j 0
  behind-entry j = ap (λ (k : ℕ). get_or (names n m ++ tail) (k + j) 0) (sym length_both) ∙ get_or-append-add (names n m) tail j 0

-- ---- the row

-- names of n and m characters, each a byte
pub record NamedRow (n m : ℕ) (v : List (Option ℤ)) : Type 0 where
  pub source : says v 1 ≡ Some (pos n)
  pub target : says v (2 + n) ≡ Some (pos m)
  pub source_chars : (j : ℕ) → j < n → Some (pos (natural (number_at (says v) (2 + j)) % 256)) ≡ says v (2 + j)
  pub target_chars : (j : ℕ) → j < m → Some (pos (natural (number_at (says v) (3 + n + j)) % 256)) ≡ says v (3 + n + j)

module _ (s : List ℕ) (e : refusal s ≡ 0) where
  -- place k, where the layout has a character
  char-at : (k : ℕ) → k < length (layout s) → get_or (layout s) k 0 ≡ uint 8 → Some (pos (natural (number_at (says (row s)) k) % 256)) ≡ says (row s) k
  char-at k l f =
      let p : ℕ = total (take k (layout s)) in
      let v : says (row s) k ≡ Some (pos (field s p 8)) = row-place s e k l ∙ ap (λ (x : ℕ). reading_of x (field s p (width x))) f in
      ap (λ (r : Option ℤ). Some (pos (natural (value_in r) % 256))) v ∙ ap (λ (x : ℕ). Some (pos x)) (mod-eq_of_lt (field_lt s p 8)) ∙ sym v

  module _ (tail : List ℕ) (f : layout s ≡ names (source_count s) (target_count s) ++ tail) where
    pub named-row : NamedRow (source_count s) (target_count s) (row s)
    named-row =
        let n : ℕ = source_count s in
        let m : ℕ = target_count s in
        let l = ap length f ∙ length-names n m tail in
        let r = row_of_lem s e ∙ ap (λ (x : List ℕ). decode_all x 0 s) f in
        record {
          source = ap (λ (v : List (Option ℤ)). says v 1) r ∙ source-at n m tail s;
          target = ap (λ (v : List (Option ℤ)). says v (2 + n)) r ∙ target_at n m tail s;
          source_chars = λ j h. char-at (2 + j) (omega arith) (ap (λ (x : List ℕ). get_or x (2 + j) 0) f ∙ source-entry n m tail j h);
          target_chars = λ j h. char-at (3 + n + j) (omega arith) (ap (λ (x : List ℕ). get_or x (3 + n + j) 0) f ∙ target-entry n m tail j h);
        }

    -- place j behind both names
    pub behind-valued : (j : ℕ) → signed (get_or tail j 0) ≡ false → Valued (says (row s) (3 + source_count s + target_count s + j))
    behind-valued j u =
        let n : ℕ = source_count s in
        let m : ℕ = target_count s in
        valued s (names n m ++ tail) e f (3 + n + m + j) (ap signed (behind-entry n m tail j) ∙ u)
