-- The tally of outcomes, with one outcome more: the update by one point gives the tally of the longer list.
-- Assumes nothing.
use mathlib.Core.Path.{◌≡◌, refl, sym, ap, ◌∙◌, subst}
use mathlib.Core.Bool.{Bool, true, false, cond, ◌||◌}
use mathlib.Core.Logic.{◌⊎◌, inl, inr}
use mathlib.Core.List.{List, [], ◌∷◌, ◌++◌}
use Prim.Native.Nat.{ℕ, zero, suc, ◌+◌, ◌*◌, ◌-◌, ◌≤◌, ◌<◌, zero-le}
use native.Mathlib.Nat.{eq-or-lt_of_le}
use native.Mathlib.Omega.{arith}
use lib.Dec.{eqb}
use lib.IntN.{ℤ, nat_abs}
use lib.ListN.{length, get_or, set, length-set}
use lib.Seq.{get_or-set_same, get_or-set_other}
use borrow.Author.Tests.{eqb-true, eqb-false, eq-eqb, ne_eqb, lt-ltb, le-leb}
use Rattle.arith.specs.Lists.{up_to}
use Rattle.arith.proofs.Lists.{get_d-up_to, is-up_to, up_to-same}
use Rattle.arith.proofs.Int.{abs-add}
use Rattle.grid_counts.specs.declared.Counted.{Counted}
use Rattle.report_update.specs.declared.Tally.{Tally}
use Rattle.report_update.specs.Numbers.{how_many, counts, sum_of, extreme, below, above, ahead, place_of, refused_under, tally_of, total, points_in}
use Rattle.report_update.specs.Update.{as_read, with_refused, with_answered, with_outcome}
use Rattle.report_update.specs.Inner.{countable, refusable, grown_by}
use Rattle.report_update.proofs.Laws.{yes, no, by-test}
use Rattle.report_update.proofs.Behind.{one, many_more, counts-answered, counts-refused, sum_more}
use Rattle.report_update.proofs.Extremes.{Order, some, none, best-more, place-more, place_kept, below-order, above-order}

-- what a point can be answered: a refusal number of at most 15, and a count of at most 10^7
pub record Sound (o : Counted) : Type 0 where
  pub number : o.refusal ≤ 15
  pub size : nat_abs o.count ≤ 10000000

-- ---- the tally of sound outcomes, with one more

abbrev pub Sounds : List Counted → Type 0
Sounds [] = Unit {0}
Sounds (o ∷ os) = Sound o × Sounds os

total-append : (a : List ℕ) (k : ℕ) → total (a ++ (k ∷ [])) ≡ total a + k
total-append [] k = omega arith
total-append (x ∷ a) k = omega (arith, total-append a k)

total-add : (f g h : ℕ → ℕ) (k : ℕ) → ((i : ℕ) → h i ≡ f i + g i) → total (up_to h k) ≡ total (up_to f k) + total (up_to g k)
total-add f g h zero e = refl
total-add f g h (suc k) e =
    omega (arith, total-append (up_to f k) (f k), total-append (up_to g k) (g k), total-append (up_to h k) (h k), e k, total-add f g h k e)

-- one outcome stands under one number
abbrev hit : ℕ → ℕ → ℕ
hit r i = cond (eqb r (i + 1)) 1 0

hits : (r k : ℕ) → (r ≤ k → cond (eqb r 0) 1 0 + total (up_to (hit r) k) ≡ 1) × (k < r → cond (eqb r 0) 1 0 + total (up_to (hit r) k) ≡ 0)
hits r zero = (λ h. omega (arith, yes {A = ℕ} 1 0 (eq-eqb r 0 (omega arith))), λ h. omega (arith, no {A = ℕ} 1 0 (ne_eqb r 0 (λ e. absurd (omega arith)))))
hits r (suc k) = (
  λ h. by-test (λ (n : ℕ). hit r k ≡ n → cond (eqb r 0) 1 0 + total (up_to (hit r) (suc k)) ≡ 1) (eqb r (k + 1))
      (λ e f. omega (arith, total-append (up_to (hit r) k) (hit r k), (hits r k).1 (omega (arith, eqb-true r (k + 1) e)), f))
      (λ e f. omega (arith, total-append (up_to (hit r) k) (hit r k), (hits r k).0 (apart (eqb-false r (k + 1) e) h), f)) refl,
  λ h. omega (arith, total-append (up_to (hit r) k) (hit r k), (hits r k).1 (omega arith), no {A = ℕ} 1 0 (ne_eqb r (k + 1) (λ e. absurd (omega arith)))),
)
  where
    apart : (r ≡ k + 1 → ⊥) → r ≤ suc k → r ≤ k
    apart f h = under (eq-or-lt_of_le h)
      where
        under : (r ≡ suc k) ⊎ (r < suc k) → r ≤ k
        under (inl e) = absurd (f (omega (arith, e)))
        under (inr l) = omega (arith, l)

some_number : (n : ℕ) → (n ≡ 0 → ⊥) → 1 ≤ n
some_number zero f = absurd (f refl)
some_number (suc n) f = omega arith

-- answered plus refused equals the points given
pub all-counted : (os : List Counted) → Sounds os → how_many 0 os + total (up_to (refused_under os) 15) ≡ length os
all-counted [] h = refl
all-counted (o ∷ os) h =
    omega (arith, total-add (hit o.refusal) (refused_under os) (refused_under (o ∷ os)) 15 (λ i. refl), (hits o.refusal 15).0 h.0.number, all-counted os h.1)

pub points-are : (os : List Counted) → Sounds os → points_in (tally_of os) ≡ length os
unfolding tally_of
points-are os h = all-counted os h

pub sum-small : (os : List Counted) → Sounds os → nat_abs (sum_of (counts os)) ≤ length os * 10000000
sum-small [] h = zero-le
sum-small (o ∷ os) h = go (eqb o.refusal 0) (sum-small os h.1)
  where
    go : (t : Bool) → nat_abs (sum_of (counts os)) ≤ length os * 10000000 → nat_abs (sum_of (cond t (o.count ∷ counts os) (counts os))) ≤ suc (length os) * 10000000
    go true k = omega (arith, abs-add o.count (sum_of (counts os)), h.0.size)
    go false k = omega arith

read_is : (os : List Counted) → as_read (tally_of os) ≡ tally_of os
unfolding as_read tally_of
read_is os = go (counts os) refl
  where
    go : (zs : List ℤ) → counts os ≡ zs → as_read (tally_of os) ≡ tally_of os
    go [] e = yes _ _ (none below below-order os e) ∙ (λ i. record {
      answered = sym (eqb-true (how_many 0 os) 0 (none below below-order os e)) i;
      refused = up_to (refused_under os) 15;
      smallest = extreme below (sym e i);
      greatest = extreme above (sym e i);
      smallest_place = sym (yes 0 (ahead (extreme below (counts os)) os + 1) (none below below-order os e)) i;
      greatest_place = sym (yes 0 (ahead (extreme above (counts os)) os + 1) (none below below-order os e)) i;
      sum = sum_of (counts os);
    })
    go (w ∷ zs) e = no _ _ (some below below-order os w zs e)

module _ (os : List Counted) (o : Counted) where
  with-answer : eqb o.refusal 0 ≡ true → with_answered (tally_of os) o.count (length os + 1) ≡ tally_of (os ++ one o)
  unfolding with_answered tally_of
  with-answer a = λ i. record {
    answered = many 0 (eq-eqb o.refusal 0 (eqb-true o.refusal 0 a)) i;
    refused = up_to-same (refused_under os) (refused_under (os ++ one o)) 15 (λ j l. kept j) i;
    smallest = sym (best-more below below-order os o a (counts os) refl) i;
    greatest = sym (best-more above above-order os o a (counts os) refl) i;
    smallest_place = place below below-order i;
    greatest_place = place above above-order i;
    sum = (sym (sum_more (counts os) o.count) ∙ sym (ap sum_of (counts-answered os o a))) i;
  }
    where
      many : (n : ℕ) → eqb o.refusal n ≡ true → how_many n os + 1 ≡ how_many n (os ++ one o)
      many n e = omega (arith, many_more n os o, yes {A = ℕ} 1 0 e)

      kept : (j : ℕ) → refused_under os j ≡ refused_under (os ++ one o) j
      kept j = omega (arith, many_more (j + 1) os o, no {A = ℕ} 1 0 (ne_eqb o.refusal (j + 1) (λ e. absurd (omega (arith, e, eqb-true o.refusal 0 a)))))

      place : (before : ℤ → ℤ → Bool) (ord : Order before)
          → cond (eqb (how_many 0 os) 0 || before o.count (extreme before (counts os))) (length os + 1) (place_of (extreme before (counts os)) os)
          ≡ place_of (extreme before (counts (os ++ one o))) (os ++ one o)
      place before ord =
          sym (place-more before ord os o a (counts os) refl)

  with-refusal : eqb o.refusal 0 ≡ false → with_refused (tally_of os) o.refusal ≡ tally_of (os ++ one o)
  unfolding with_refused tally_of
  with-refusal a = λ i. record {
    answered = same 0 a i;
    refused = is-up_to (refused_under (os ++ one o)) 15 0 (set (up_to (refused_under os) 15) n' (get_or (up_to (refused_under os) 15) n' 0 + 1)) (length-set (up_to (refused_under os) 15) n' _) (λ j l. at_place j l) i;
    smallest = extreme below (sym (counts-refused os o a) i);
    greatest = extreme above (sym (counts-refused os o a) i);
    smallest_place = sym (place_kept below below-order os o (counts os) refl a) i;
    greatest_place = sym (place_kept above above-order os o (counts os) refl a) i;
    sum = sum_of (sym (counts-refused os o a) i);
  }
    where
      n' : ℕ
      n' = o.refusal - 1

      positive : 1 ≤ o.refusal
      positive = some_number o.refusal (eqb-false o.refusal 0 a)

      same : (n : ℕ) → eqb o.refusal n ≡ false → how_many n os ≡ how_many n (os ++ one o)
      same n e = omega (arith, many_more n os o, no {A = ℕ} 1 0 e)

      at_place : (j : ℕ) → j < 15 → get_or (set (up_to (refused_under os) 15) n' (get_or (up_to (refused_under os) 15) n' 0 + 1)) j 0 ≡ refused_under (os ++ one o) j
      at_place j l = go (eqb o.refusal (j + 1)) refl
        where
          go : (t : Bool) → eqb o.refusal (j + 1) ≡ t → get_or (set (up_to (refused_under os) 15) n' (get_or (up_to (refused_under os) 15) n' 0 + 1)) j 0 ≡ refused_under (os ++ one o) j
          go true e =
              let at : n' ≡ j = omega (arith, eqb-true o.refusal (j + 1) e) in
              subst (λ (k : ℕ). get_or (set (up_to (refused_under os) 15) k (get_or (up_to (refused_under os) 15) k 0 + 1)) j 0 ≡ refused_under (os ++ one o) j) (sym at)
              (get_or-set_same (up_to (refused_under os) 15) j (get_or (up_to (refused_under os) 15) j 0 + 1) 0 l
              ∙ omega (arith, get_d-up_to (refused_under os) 15 j 0 l, many_more (j + 1) os o, yes {A = ℕ} 1 0 e))
          go false e =
              get_or-set_other (up_to (refused_under os) 15) n' j (get_or (up_to (refused_under os) 15) n' 0 + 1) 0 (λ p. eqb-false o.refusal (j + 1) e (omega (arith, p, positive)))
              ∙ get_d-up_to (refused_under os) 15 j 0 l ∙ same (j + 1) e

  pub with-one : with_outcome (tally_of os) o.refusal o.count (length os + 1) ≡ tally_of (os ++ one o)
  unfolding with_outcome
  with-one = by-test (λ (t : Tally). t ≡ tally_of (os ++ one o)) (eqb o.refusal 0) with-answer (λ a. ap (λ (t : Tally). with_refused t o.refusal) (read_is os) ∙ with-refusal a)

-- no number is past its limit
many-most : (n : ℕ) (os : List Counted) → how_many n os ≤ length os
many-most n [] = zero-le
many-most n (o ∷ os) = go (eqb o.refusal n) (many-most n os)
  where
    go : (t : Bool) → how_many n os ≤ length os → cond t 1 0 + how_many n os ≤ suc (length os)
    go true h = omega arith
    go false h = omega arith

module _ (os : List Counted) (o : Counted) (h : Sounds os) (g : Sound o) (few : length os < 10000) where
  counts-in : countable (tally_of os) o.count ≡ true
  unfolding tally_of
  counts-in =
      rw (
        lt-ltb (how_many 0 os) 10000 (omega (arith, many-most 0 os)),
        le-leb (nat_abs (sum_of (counts os))) 100000000000 (omega (arith, sum-small os h)),
        le-leb (nat_abs o.count) 10000000 g.size,
      )

  refusals-in : eqb o.refusal 0 ≡ false → refusable (tally_of os) o.refusal ≡ true
  unfolding tally_of
  refusals-in a =
      let n = o.refusal in
      let p : 1 ≤ n = some_number n (eqb-false n 0 a) in
      let l : n - 1 < 15 = omega (arith, p, g.number) in
      rw (
        le-leb n 15 g.number,
        get_d-up_to (refused_under os) 15 (n - 1) 0 l,
        lt-ltb (how_many (n - 1 + 1) os) 10000 (omega (arith, many-most (n - 1 + 1) os)),
      )

  pub grown-one : grown_by (tally_of os) o.refusal o.count (length os) ≡ tally_of (os ++ one o)
  unfolding grown_by
  grown-one =
      rw (lt-ltb (length os) 10000 few, counts-in)
      (by-test (λ (t : Tally). t ≡ tally_of (os ++ one o)) (eqb o.refusal 0) (with-answer os o)
      (λ a. yes _ _ (refusals-in a) ∙ ap (λ (t : Tally). with_refused t o.refusal) (read_is os) ∙ with-refusal os o a))
