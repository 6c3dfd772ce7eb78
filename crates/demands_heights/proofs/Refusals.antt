-- The refusals of a height grid: NOMEAN exactly if no mean fits, RANGE never for a height field, and the row's own height fields not looked at.
-- Assumes nothing.
use Rattle.std.proofs.Common.{Option}
use mathlib.Core.Path.{◌≡◌, refl, sym, ap, ◌∙◌}
use mathlib.Core.Bool.{Bool, true, false, not, cond, ◌&&◌, ◌||◌}
use mathlib.Core.List.{List, [], ◌∷◌, ◌++◌}
use mathlib.Core.Logic.{⊎_elim}
use Prim.Native.Nat.{ℕ, zero, suc, ◌≤◌, ◌<◌}
use native.Mathlib.Omega.{arith}
use borrow.Author.Tests.{eqb-true, leb-true}
use lib.Dec.{T, eqb, leb, ltb}
use lib.IntN.{ℤ, pos}
use lib.ListN.{length, get_or}
use Rattle.arith.specs.First.{Test, first}
use Rattle.arith.specs.Lists.{at}
use Rattle.arith.specs.Whole.{natural, same_z}
use Rattle.arith.proofs.First.{passed, not-false, stops, goes_on, passes}
use Rattle.arith.proofs.Lists.{up_to-same}
use Rattle.layout.specs.Layout.{row_of, place_takes, row_takes, value_in, size, answered, stored}
use Rattle.layout_tables.specs.Layouts.{layout_of, layout1023}
use Rattle.layout_tables.proofs.Length.{length-1023}
use Rattle.record_rows.specs.Numbers.{says, number_at}
use Rattle.message_rows.specs.Message.{row_layout, of_kind, row_tests, message}
use Rattle.heights_mean.specs.Means.{smallest_mean}
use Rattle.std.specs.Prelude.{Option, Some, None}
use Rattle.heights_mean.proofs.Choice.{Smallest, smallest, smallest-missing, found-or-none}
use Rattle.heights.specs.Heights.{of_height, value_with, present_with, height_values, height_present, count_tests, zero_beside, says_zero, says_other, says_none, record_tests, mean_tests, heights_refusal, heights_message, message_with}
use Rattle.heights.proofs.Calls.{record-out, behind, mean-out}
use Rattle.demands_heights.specs.Heights.{NoneFits, ChoosesSmallest, Counted, NoMeanExactly, OthersTaken, OnlyOthers, SameOthers, NotLookedAt}
use Rattle.demands_heights.proofs.Row.{said, length-values, length-present, other-value, other_byte, says_other_lem, height-taken, all-places}

pub chooses-smallest : ChoosesSmallest
chooses-smallest wanted m e =
    let s = smallest wanted m e in
    record { range = s.range; fitting = s.fitting; least = s.least }

-- ---- NOMEAN

-- no test has a number above t
abbrev upto : ℕ → List Test → Bool
upto t [] = true
upto t (x ∷ xs) = leb x.0 t && upto t xs

first-most : (t : ℕ) (xs : List Test) → T (upto t xs) → first xs ≤ t
first-most t [] h = omega arith
first-most t (x ∷ xs) h = by (leb x.0 t) x.1 refl h (first-most t xs)
  where
    by : (c d : Bool) → leb x.0 t ≡ c → T (c && upto t xs) → (T (upto t xs) → first xs ≤ t) → cond d x.0 (first xs) ≤ t
    by true true e h r = leb-true x.0 t e
    by true false e h r = r h
    by false d e h r = absurd h

module _ (z : List ℤ) (b : List ℕ) (wanted : List ℤ) where
  pub counted_of : first (count_tests z b wanted ++ record_tests z b) ≡ 0 → Counted z b wanted × (first (record_tests z b) ≡ 0)
  counted_of e =
      let p = passes (count_tests z b wanted) (record_tests z b) tt e in
      let x = passed 4 (not (eqb (length z) 64)) _ p.0 in
      let y = passed 4 (not (eqb (length b) 64)) _ x.1 in
      let w = passed 4 (not (eqb (length wanted) 16)) _ y.1 in (
        record {
          values = eqb-true (length z) 64 (not-false _ x.0);
          present = eqb-true (length b) 64 (not-false _ y.0);
          heights = eqb-true (length wanted) 16 (not-false _ w.0);
        },
        p.1,
      )

  module _ (n : ℕ) where
    abbrev early : List Test
    early = count_tests z b wanted ++ record_tests z b

    abbrev late : List Test
    late = mean_tests z b wanted n (smallest_mean wanted)

    -- the tests before NOMEAN have numbers up to 13
    early-passed : heights_refusal z b wanted n ≡ 23 → first early ≡ 0
    unfolding heights_refusal
    early-passed e = by (first early) refl
      where
        by : (k : ℕ) → k ≡ first early → first early ≡ 0
        by zero p = sym p
        by (suc k) p =
            let s = stops early late tt p (λ q. absurd (omega arith)) in
            absurd (omega (arith, s, e, first-most 13 early tt))

    late_is : first early ≡ 0 → first late ≡ heights_refusal z b wanted n
    unfolding heights_refusal
    late_is e = goes_on early late tt e

    -- with a mean every refusal is at most 6
    none_of_lem : heights_refusal z b wanted n ≡ 23 → NoneFits wanted
    none_of_lem e = ⊎_elim with-mean (λ h. h) (found-or-none wanted)
      where
        with-mean : (m : ℤ) × (smallest_mean wanted ≡ Some m) → NoneFits wanted
        with-mean p =
            let f : first (mean_tests z b wanted n (Some p.0)) ≡ 23 =
            ap (λ (k : Option ℤ). first (mean_tests z b wanted n k)) (sym p.1) ∙ late_is (early-passed e) ∙ e in
            absurd (omega (arith, f, first-most 6 (mean_tests z b wanted n (Some p.0)) tt))

pub no-mean-exactly : NoMeanExactly
no-mean-exactly z b wanted n =
    record {
      only = λ e. let c = counted_of z b wanted (early-passed z b wanted n e) in (c.0, c.1, none_of_lem z b wanted n e);
      always = λ c e h. sym (mean-out z b wanted n c.values c.present c.heights e (smallest-missing wanted h));
    }

-- ---- RANGE

-- the tests of the record are not RANGE
not-range : (p q r s : Bool) → first ((10, p) ∷ (11, q) ∷ (12, r) ∷ (13, s) ∷ []) ≡ 5 → ⊥
not-range true q r s e = absurd (omega arith)
not-range false true r s e = absurd (omega arith)
not-range false false true s e = absurd (omega arith)
not-range false false false true e = absurd (omega arith)
not-range false false false false e = absurd (omega arith)

room-only : (t : Bool) → first ((6, t) ∷ []) ≡ 5 → ⊥
room-only true e = absurd (omega arith)
room-only false e = absurd (omega arith)

module _ (z : List ℤ) (b : List ℕ) (wanted : List ℤ) (m : ℤ) where
  abbrev zs : List ℤ
  zs = height_values z wanted m

  abbrev bs : List ℕ
  bs = height_present b

  pub layout_is : natural (number_at (says (row_of zs bs)) 0) ≡ 1023 → row_layout (row_of zs bs) ≡ layout1023
  unfolding row_layout layout_of
  layout_is e = rw e

  mean-tests : (n : ℕ) → natural (number_at (says (row_of zs bs)) 0) ≡ 1023 → row_takes layout1023 zs bs ≡ true
      → first (mean_tests z b wanted n (Some m)) ≡ first ((6, ltb n (size layout1023)) ∷ [])
  mean-tests n e t = rw (e, layout_is e, length-1023, t)

  module _ (others : OthersTaken z b) where
    number-said : at z 0 ≡ pos 1023 → natural (number_at (says (row_of zs bs)) 0) ≡ 1023
    unfolding layout1023
    number-said e =
        let y = get_or b 0 0 in
        let t = said 12 (at z 0) y refl (others 0 (omega arith) refl) in
        ap (λ (r : Option ℤ). natural (value_in r)) (says_other_lem z b wanted m 0 (omega arith) refl) ∙ rw (t, e)

    place : Smallest wanted m → (k : ℕ) → k < 64 → (o : Bool) → of_height k ≡ o → place_takes (get_or layout1023 k 0) (at zs k) (get_or bs k 0) ≡ true
    place s k l true o = height-taken z b wanted m s k l o
    place s k l false o = rw (other-value z b wanted m k l o, other_byte z b wanted m k l o) (others k l o)

    taken : Smallest wanted m → row_takes layout1023 zs bs ≡ true
    taken s =
        all-places layout1023 zs bs (length-values z b wanted m ∙ sym length-1023) (length-present z b wanted m ∙ sym length-1023)
        (λ k l. place s k (omega (arith, l, length-1023)) (of_height k) refl)

pub only-others : OnlyOthers
only-others z b wanted n c number others e = by (first (record_tests z b)) refl
  where
    by : (k : ℕ) → k ≡ first (record_tests z b) → ⊥
    by zero p =
        ⊎_elim
        (λ (f : (m : ℤ) × (smallest_mean wanted ≡ Some m)).
        room-only (ltb n (size layout1023))
        (sym (mean-tests z b wanted f.0 n (number-said z b wanted f.0 others number) (taken z b wanted f.0 others (smallest wanted f.0 f.1)))
        ∙ behind z b wanted n c.values c.present c.heights (sym p) (Some f.0) f.1 ∙ e))
        (λ (h : NoneFits wanted).
        let q = mean-out z b wanted n c.values c.present c.heights (sym p) (smallest-missing wanted h) in
        absurd (omega (arith, q, e)))
        (found-or-none wanted)
    by (suc k) p =
        not-range (says_zero z b 3) (says_other z b 60) (says_none z b 4 || says_none z b 5) (says_zero z b 6 || says_zero z b 7)
        (sym p ∙ (record-out z b wanted n c.values c.present c.heights p (λ q. absurd (omega arith)) ∙ e))

-- ---- the height fields of the row

module _ (z y : List ℤ) (b a : List ℕ) (s : SameOthers z y b a) where
  module _ (k : ℕ) (o : of_height k ≡ false) where
    same-zero : (mark : ℕ) → zero_beside mark z b k ≡ zero_beside mark y a k
    unfolding zero_beside
    same-zero mark = λ i. eqb (s.byte k o i) mark && same_z (s.value k o i) (pos 0)

    same-other : says_other z b k ≡ says_other y a k
    unfolding says_other
    same-other = λ i. eqb (s.byte k o i) 1 && not (same_z (s.value k o i) (pos 0))

  same-record : record_tests z b ≡ record_tests y a
  same-record =
      λ i. (10, same-zero 3 refl 1 i)
      ∷ (11, same-other 60 refl i)
      ∷ (12, same-zero 4 refl 0 i || same-zero 5 refl 0 i)
      ∷ (13, same-zero 6 refl 1 i || same-zero 7 refl 1 i)
      ∷ []

  same_byte : (k : ℕ) (t : Bool) → of_height k ≡ t → present_with b k ≡ present_with a k
  unfolding present_with
  same_byte k true e = rw e
  same_byte k false e = rw e (s.byte k e)

  same-present : height_present b ≡ height_present a
  unfolding height_present
  same-present = up_to-same (present_with b) (present_with a) 64 (λ k l. same_byte k (of_height k) refl)

  module _ (wanted : List ℤ) where
    same-counts : count_tests z b wanted ≡ count_tests y a wanted
    same-counts = λ i. (5, not (eqb (s.values i) 64)) ∷ (5, not (eqb (s.present i) 64)) ∷ (5, not (eqb (length wanted) 16)) ∷ []

    same-value : (m : ℤ) (k : ℕ) (t : Bool) → of_height k ≡ t → value_with z wanted m k ≡ value_with y wanted m k
    unfolding value_with
    same-value m k true e = rw e
    same-value m k false e = rw e (s.value k e)

    same-values : (m : ℤ) → height_values z wanted m ≡ height_values y wanted m
    unfolding height_values
    same-values m = up_to-same (value_with z wanted m) (value_with y wanted m) 64 (λ k l. same-value m k (of_height k) refl)

    same_tests : (n : ℕ) (k : Option ℤ) → mean_tests z b wanted n k ≡ mean_tests y a wanted n k
    same_tests n (Some m) =
        λ i. (5, not (of_kind 1023 1023 (row_of (same-values m i) (same-present i)))) ∷ row_tests (same-values m i) (same-present i) n
    same_tests n None = refl

    same-refusal : (n : ℕ) → heights_refusal z b wanted n ≡ heights_refusal y a wanted n
    unfolding heights_refusal
    same-refusal n = λ i. first ((same-counts i ++ same-record i) ++ same_tests n (smallest_mean wanted) i)

    same-with : (k : Option ℤ) → message_with z b wanted k ≡ message_with y a wanted k
    same-with (Some m) = λ i. message (row_of (same-values m i) (same-present i))
    same-with None = refl

    same-message : heights_message z b wanted ≡ heights_message y a wanted
    unfolding heights_message
    same-message = same-with (smallest_mean wanted)

pub not-looked-at : NotLookedAt
not-looked-at z y b a wanted out s =
    let r = same-refusal z y b a s wanted (length out) in
    let m = same-message z y b a s wanted in
    (λ i. answered (r i) (m i), λ i. stored (r i) (m i) out)
