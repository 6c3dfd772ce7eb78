-- What the head of a message says: its number and name counters, the layout that it calls for, and the first refusals.
-- Assumes nothing.
use Prim.Native.Nat.{ℕ, ◌+◌, ◌*◌, ◌≤◌, ◌<◌}
use native.Mathlib.Omega.{arith}
use mathlib.Core.Path.{◌≡◌, refl, sym, ap, ◌∙◌}
use mathlib.Core.Bool.{Bool, true, false, not, cond, ◌&&◌, ◌||◌}
use mathlib.Core.List.{List, []}
use lib.Dec.{eqb, leb, ltb}
use lib.ListN.{length}
use borrow.Author.Tests.{ltb-false, leb-true, le-ltb, lt-leb, le-leb, eqb-true, ne_eqb}
use native.Mathlib.Decide.{dec_le}
use Rattle.arith.specs.First.{first}
use Rattle.arith.proofs.First.{passed, not-false, or-false, first-append}
use Rattle.arith.proofs.Tests.{both_first, both-second}
use Rattle.field.specs.Inner.{field_at}
use Rattle.layout.specs.Layout.{decode_all, read_tests}
use Rattle.layout.specs.Inner.{refusal_of}
use Rattle.field.proofs.Bit.{field_lt}
use Rattle.field.proofs.Place.{field-inside, field_at-lt}
use Rattle.layout_tables.specs.Layouts.{known, named}
use Rattle.layout_tables.specs.Inner.{layout_by}
use Rattle.layout_tables.proofs.Length.{length-layout, unnamed-layout, layout-by}
use Rattle.message_rows.specs.Message.{number_of, source_count, target_count, counter_cut, head_tests, layout, refusal, row, sin_bit}
use Rattle.message_rows.specs.Private.{Counted, sin_place}

-- ---- what the code reads

pub number_read : (s : List ℕ) → 2 ≤ length s → field_at s 0 12 ≡ number_of s
number_read s h = field-inside s 0 12 (omega arith) (omega arith) (omega arith)

pub source-read : (s : List ℕ) → 3 ≤ length s → field_at s 12 5 ≡ source_count s
source-read s h = field-inside s 12 5 (omega arith) (omega arith) (omega arith)

pub source-lt : (s : List ℕ) → source_count s < 32
source-lt s = field_lt s 12 5

pub target-lt : (s : List ℕ) → target_count s < 32
target-lt s = field_lt s (17 + 8 * source_count s) 5

pub target-read : (s : List ℕ) → source_count s + 3 ≤ length s → field_at s (17 + 8 * source_count s) 5 ≡ target_count s
target-read s h = field-inside s (17 + 8 * source_count s) 5 (omega arith) (omega (arith, source-lt s)) (omega arith)

-- ---- a head that is not refused

pub record Head (s : List ℕ) : Type 0 where
  pub long : 2 ≤ length s
  pub low : 1021 ≤ number_of s
  pub high : number_of s ≤ 1027
  pub counted : number_of s ≤ 1022 → (3 ≤ length s) × (source_count s + 3 ≤ length s)

uncut : (b x : Bool) → b ≡ true → (b && x) ≡ false → x ≡ false
uncut true x e h = h
uncut false x e h = let z : x ≡ x = refl in absurd (let y : ◌≡◌ {A = ℕ} 0 1 = cc in omega arith)

pub head_of : (s : List ℕ) → first (head_tests s) ≡ 0 → Head s
head_of s h =
    let a = passed 0 (ltb (length s) 2) _ h in
    let b = passed 1 (not (known (number_of s))) _ a.1 in
    let d = passed 2 (counter_cut s) _ b.1 in
    let k = not-false (known (number_of s)) b.0 in
    record {
      long = ltb-false (length s) 2 a.0;
      low = leb-true 1021 (number_of s) (both_first (leb 1021 (number_of s)) (leb (number_of s) 1027) k);
      high = leb-true (number_of s) 1027 (both-second (leb 1021 (number_of s)) (leb (number_of s) 1027) k);
      counted =
          λ m.
          let e = or-false (ltb (length s) 3) (ltb (length s) (source_count s + 3))
          (uncut (named (number_of s)) (ltb (length s) 3 || ltb (length s) (source_count s + 3)) (le-leb (number_of s) 1022 m) d.0) in
          (ltb-false (length s) 3 e.0, ltb-false (length s) (source_count s + 3) e.1);
    }

pub head-passes : (s : List ℕ) → Head s → first (head_tests s) ≡ 0
head-passes s h = by (dec_le (number_of s) 1022)
  where
    by : Dec (number_of s ≤ 1022) → first (head_tests s) ≡ 0
    by (yes m) =
        let k = h.counted m in
        rw (
          le-ltb (length s) 2 h.long,
          le-leb 1021 (number_of s) h.low,
          le-leb (number_of s) 1027 h.high,
          le-leb (number_of s) 1022 m,
          le-ltb (length s) 3 k.0,
          le-ltb (length s) (source_count s + 3) k.1,
        )
    by (no m) =
        rw (
          le-ltb (length s) 2 h.long,
          le-leb 1021 (number_of s) h.low,
          le-leb (number_of s) 1027 h.high,
          lt-leb (number_of s) 1022 (omega arith),
        )

-- ---- the layout that a message calls for

pub layout-most : (s : List ℕ) → length (layout s) ≤ 90
unfolding layout
layout-most s = length-layout _ _ _ (omega (arith, source-lt s)) (omega (arith, target-lt s))

-- of a number without names, and of one with names
pub read-unnamed : (s : List ℕ) {k : ℕ} → first (head_tests s) ≡ 0 → k ≡ field_at s 0 12 → 1022 < k → layout_by k 0 0 ≡ layout s
unfolding layout
read-unnamed s {k} h e l =
    let a : k ≡ number_of s = e ∙ number_read s (head_of s h).long in
    layout-by k 0 0 (omega arith) (omega arith) ∙ unnamed-layout k 0 0 (source_count s) (target_count s) l ∙ rw a

pub read_named : (s : List ℕ) {k n m : ℕ} → first (head_tests s) ≡ 0 → k ≡ field_at s 0 12 → k ≤ 1022 → n ≡ field_at s 12 5 → m ≡ field_at s (17 + 8 * n) 5
    → layout_by k n m ≡ layout s
unfolding layout
read_named s {k} {n} {m} h e l f g =
    let a : k ≡ number_of s = e ∙ number_read s (head_of s h).long in
    let c = (head_of s h).counted (omega arith) in
    let b : n ≡ source_count s = f ∙ source-read s c.0 in
    let d : m ≡ target_count s = g ∙ ap (λ (x : ℕ). field_at s (17 + 8 * x) 5) b ∙ target-read s c.1 in
    layout-by k n m (omega (arith, source-lt s)) (omega (arith, target-lt s)) ∙ rw (a, b, d)

-- ---- the same from what the code read

pub counted-low : (s : List ℕ) (k p : ℕ) → cond (named k) (field_at s p 5) 0 ≤ 31
counted-low s k p = by (named k)
  where
    by : (b : Bool) → cond b (field_at s p 5) 0 ≤ 31
    by true = omega (arith, field_at-lt s p 5)
    by false = omega arith

pub counted-layout : (s : List ℕ) {k n m : ℕ} → first (head_tests s) ≡ 0 → Counted s k n m → layout_by k n m ≡ layout s
counted-layout s {k} {n} {m} h c = by (dec_le k 1022)
  where
    by : Dec (k ≤ 1022) → layout_by k n m ≡ layout s
    by (yes l) = let e = le-leb k 1022 l in read_named s h c.number l (rw e at c.source) (rw e at c.target)
    by (no l) =
        let e = lt-leb k 1022 (omega arith) in
        let a : n ≡ 0 = rw e at c.source in
        let b : m ≡ 0 = rw e at c.target in
        rw (a, b) (read-unnamed s h c.number (omega arith))

pub counted-sin : (s : List ℕ) {k n m : ℕ} → first (head_tests s) ≡ 0 → Counted s k n m → sin_place k n m ≡ sin_bit s
counted-sin s {k} {n} {m} h c = by (dec_le k 1022)
  where
    e : k ≡ number_of s
    e = c.number ∙ number_read s (head_of s h).long

    by : Dec (k ≤ 1022) → sin_place k n m ≡ sin_bit s
    by (yes l) =
        let g = le-leb k 1022 l in
        let d = (head_of s h).counted (omega (arith, e)) in
        let a : n ≡ source_count s = rw g at c.source ∙ source-read s d.0 in
        let b : m ≡ target_count s = rw g at c.target ∙ ap (λ (x : ℕ). field_at s (17 + 8 * x) 5) a ∙ target-read s d.1 in
        rw (← e, g, a, b)
    by (no l) = rw (← e, lt-leb k 1022 (omega arith))

-- ---- refusals

pub refusal_is : (s : List ℕ) → refusal s ≡ cond (eqb (first (head_tests s)) 0) (refusal_of (layout s) s) (first (head_tests s))
unfolding refusal refusal_of
refusal_is s = first-append (head_tests s) (read_tests (layout s) s) tt

pub refused-head : (s : List ℕ) (h : ℕ) → h ≡ first (head_tests s) → (h ≡ 0 → ⊥) → h ≡ refusal s
refused-head s h e f = rw (refusal_is s, ← e, ne_eqb h 0 f)

pub head_passed : (s : List ℕ) → first (head_tests s) ≡ 0 → refusal s ≡ refusal_of (layout s) s
head_passed s e = rw (refusal_is s, e)

pub accepted-head : (s : List ℕ) → refusal s ≡ 0 → first (head_tests s) ≡ 0
accepted-head s e = by (first (head_tests s)) (eqb (first (head_tests s)) 0) refl (sym (refusal_is s) ∙ e)
  where
    by : (n : ℕ) (b : Bool) → eqb n 0 ≡ b → cond b (refusal_of (layout s) s) n ≡ 0 → n ≡ 0
    by n true f h = eqb-true n 0 f
    by n false f h = h

pub no_row : (s : List ℕ) → (refusal s ≡ 0 → ⊥) → row s ≡ []
unfolding row
no_row s f = rw (ne_eqb (refusal s) 0 f)

pub row_of_lem : (s : List ℕ) → refusal s ≡ 0 → row s ≡ decode_all (layout s) 0 s
unfolding row
row_of_lem s e = rw e
