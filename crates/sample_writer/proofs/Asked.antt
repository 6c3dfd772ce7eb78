-- The points of three lists of equal length, one after the other, as loops have them; and the answers of `points_refusal`.
-- Assumes nothing.
use mathlib.Core.Path.{◌≡◌, refl, ap}
use mathlib.Core.Bool.{Bool, true, false, not, cond, ◌&&◌}
use mathlib.Core.List.{List, [], ◌∷◌}
use Prim.Native.Nat.{ℕ, suc, ◌+◌, ◌≤◌, ◌<◌}
use native.Mathlib.Numerals.{add-one}
use native.Mathlib.Omega.{arith}
use borrow.Author.Tests.{eq-eqb, ne_eqb, lt-ltb, le-ltb, eqb-true, eqb-false, ltb-false}
use lib.Dec.{eqb, ltb}
use lib.IntN.{ℤ, pos}
use lib.ListN.{length, get_or, drop, drop_of_length-le}
use lib.Seq.{drop-cons}
use Rattle.arith.proofs.First.{not-false}
use Rattle.arith.proofs.Order.{none_first, none_rest}
use Rattle.arith.proofs.Tests.{both_first, both-second}
use Rattle.message_rows.specs.Message.{kind_refusal}
use Rattle.grid_counts.specs.declared.Counted.{Counted}
use Rattle.grid_component.specs.Component.{counted}
use Rattle.sample_files.specs.File.{most_points}
use Rattle.sample_writer.specs.Refusals.{Asked, answer_at, asked_of, point_test, first_refused, points_refusal}

module _ (cs : List ℕ) (ns es : List ℤ) (i : ℕ) where
  -- the points from place i on
  abbrev pub from : List Asked
  from = asked_of (drop i cs) (drop i ns) (drop i es)

  abbrev pub point : Asked
  point = record { component = get_or cs i 0; north = get_or ns i (pos 0); east = get_or es i (pos 0) }

pub from_end : (cs : List ℕ) (ns es : List ℤ) (i : ℕ) → length cs ≤ i → from cs ns es i ≡ []
unfolding asked_of
from_end cs ns es i h = rw (drop_of_length-le cs h)

module _ (cs : List ℕ) (ns es : List ℤ) (i : ℕ) (h : i < length cs) (p : length cs ≡ length ns) (q : length cs ≡ length es) where
  pub from-point : from cs ns es i ≡ point cs ns es i ∷ from cs ns es (i + 1)
  unfolding asked_of
  from-point = rw (add-one i, drop-cons cs i 0 h, drop-cons ns i (pos 0) (omega arith), drop-cons es i (pos 0) (omega arith))

  module _ (m : List ℕ) (a : Counted) (e : a ≡ counted (answer_at m (point cs ns es i))) where
    refusal_is : a.refusal ≡ (answer_at m (point cs ns es i)).refusal
    refusal_is = ap (λ (k : Counted). k.refusal) e

    pub round-refused : (a.refusal ≡ 0 → ⊥) → first_refused m (from cs ns es i) ≡ a.refusal
    unfolding first_refused point_test
    round-refused r = rw (from-point, ← refusal_is, ne_eqb a.refusal 0 r)

    pub round-answered : a.refusal ≡ 0 → first_refused m (from cs ns es i) ≡ first_refused m (from cs ns es (i + 1))
    unfolding first_refused point_test
    round-answered r = rw (from-point, ← refusal_is, eq-eqb a.refusal 0 r)

pub end_refused : (cs : List ℕ) (ns es : List ℤ) (i : ℕ) (m : List ℕ) → length cs ≤ i → first_refused m (from cs ns es i) ≡ 0
unfolding first_refused point_test
end_refused cs ns es i m h = rw (from_end cs ns es i h)

pub length-asked_of : (cs : List ℕ) (ns es : List ℤ) → length cs ≡ length ns → length cs ≡ length es → length (asked_of cs ns es) ≡ length cs
unfolding asked_of
length-asked_of [] ns es p q = refl
length-asked_of (c ∷ cs) [] es p q = absurd (omega arith)
length-asked_of (c ∷ cs) (n ∷ ns) [] p q = absurd (omega arith)
length-asked_of (c ∷ cs) (n ∷ ns) (e ∷ es) p q = ap suc (length-asked_of cs ns es (omega arith) (omega arith))

-- ---- the ways out of `points_refusal`

module _ (m cs : List ℕ) (ns es : List ℤ) where
  pub by-message : (k : ℕ) → k ≡ kind_refusal 1023 1024 m → (k ≡ 0 → ⊥) → k ≡ points_refusal m cs ns es
  unfolding points_refusal
  by-message k e q = rw (← e, ne_eqb k 0 q)

  module _ (a : kind_refusal 1023 1024 m ≡ 0) where
    pub by-north : (length cs ≡ length ns → ⊥) → 3 ≡ points_refusal m cs ns es
    unfolding points_refusal
    by-north q = rw (a, ne_eqb (length cs) (length ns) q)

    module _ (p : length cs ≡ length ns) where
      pub by-east : (length cs ≡ length es → ⊥) → 3 ≡ points_refusal m cs ns es
      unfolding points_refusal
      by-east q = rw (a, eq-eqb (length cs) (length ns) p, ne_eqb (length cs) (length es) q)

      module _ (q : length cs ≡ length es) where
        pub by-point : (k : ℕ) → k ≡ first_refused m (asked_of cs ns es) → (k ≡ 0 → ⊥) → k ≡ points_refusal m cs ns es
        unfolding points_refusal
        by-point k e r = rw (a, eq-eqb (length cs) (length ns) p, eq-eqb (length cs) (length es) q, ← e, ne_eqb k 0 r)

        module _ (r : first_refused m (asked_of cs ns es) ≡ 0) where
          pub by_count : most_points < length cs → 3 ≡ points_refusal m cs ns es
          unfolding points_refusal
          by_count h = rw (a, eq-eqb (length cs) (length ns) p, eq-eqb (length cs) (length es) q, r, length-asked_of cs ns es p q, lt-ltb most_points (length cs) h)

          pub by-none : length cs ≤ most_points → 0 ≡ points_refusal m cs ns es
          unfolding points_refusal
          by-none h = rw (a, eq-eqb (length cs) (length ns) p, eq-eqb (length cs) (length es) q, r, length-asked_of cs ns es p q, le-ltb most_points (length cs) h)

-- ---- what is known where nothing is refused

-- a number that another call gives is 0, and so is what follows
pub given-none : (n y : ℕ) (b : Bool) → eqb n 0 ≡ b → cond (not b) n y ≡ 0 → (n ≡ 0) × (y ≡ 0)
given-none n y true e h = (eqb-true n 0 e, h)
given-none n y false e h = absurd (eqb-false n 0 e h)

pub record Passed (m cs : List ℕ) (ns es : List ℤ) : Type 0 where
  pub message : kind_refusal 1023 1024 m ≡ 0
  pub north : length cs ≡ length ns
  pub east : length cs ≡ length es
  pub answered : first_refused m (asked_of cs ns es) ≡ 0
  pub few : length cs ≤ most_points

pub passed : (m cs : List ℕ) (ns es : List ℤ) → points_refusal m cs ns es ≡ 0 → Passed m cs ns es
unfolding points_refusal
passed m cs ns es h =
    let n : ℕ = length (asked_of cs ns es) in
    let x : Bool = eqb (length cs) (length ns) in
    let y : Bool = eqb (length cs) (length es) in
    let a = given-none (kind_refusal 1023 1024 m) _ (eqb (kind_refusal 1023 1024 m) 0) refl h in
    let q = not-false (x && y) (none_first (not (x && y)) 3 _ (omega arith) a.1) in
    let e = none_rest (not (x && y)) 3 _ (omega arith) a.1 in
    let r = given-none (first_refused m (asked_of cs ns es)) _ (eqb (first_refused m (asked_of cs ns es)) 0) refl e in
    let p = eqb-true (length cs) (length ns) (both_first x y q) in
    let z = eqb-true (length cs) (length es) (both-second x y q) in
    record {
      message = a.0;
      north = p;
      east = z;
      answered = r.0;
      few = omega (arith, length-asked_of cs ns es p z, ltb-false most_points n (none_first (ltb most_points n) 3 0 (omega arith) r.1));
    }
