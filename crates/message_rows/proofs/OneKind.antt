-- The ways out of reading one kind of record.
-- Assumes nothing.
use Rattle.std.proofs.Common.{Option}
use Prim.Native.Nat.{ℕ, zero, suc, ◌-◌, ◌≤◌, ◌<◌}
use native.Mathlib.Nat.{lt_irrefl}
use native.Mathlib.Numerals.{unary_clauses}
use native.Mathlib.Omega.{arith}
use mathlib.Core.Path.{◌≡◌, refl, sym, ◌∙◌, ap}
use mathlib.Core.Bool.{Bool, true, false, not, cond, ◌&&◌}
use mathlib.Core.List.{List, [], ◌∷◌, ◌++◌}
use lib.Dec.{leb, eqb, eqb-suc-zero}
use lib.IntN.{ℤ, pos}
use lib.ListN.{length, drop, replicate}
use borrow.Author.Tests.{leb-true, lt-leb, le-leb, le-ltb, ne_eqb}
use Rattle.arith.specs.First.{first}
use Rattle.arith.proofs.First.{first-append, stops, goes_on}
use native.Mathlib.Decide.{ℕ_discrete}
use Rattle.field.specs.Inner.{field_at}
use Rattle.layout.specs.Layout.{row_of, stored, room_tests}
use Rattle.record_rows.specs.Numbers.{says, values_of, present_of}
use Rattle.record_rows.proofs.Rows.{says-filled}
use Rattle.message_rows.specs.Message.{number_of, layout, tests, refusal, row, row_refusal, values_read, present_read, kind_tests, kind_refusal, kind_row}
use Rattle.message_rows.specs.Inner.{kind_room_refusal}
use Rattle.message_rows.proofs.Head.{layout-most, number_read, head_of, accepted-head}

-- ---- reading

module _ (lo hi : ℕ) (s : List ℕ) where
  kind-refusal-is : kind_refusal lo hi s ≡ cond (eqb (refusal s) 0) (cond (not (leb lo (number_of s) && leb (number_of s) hi)) 7 0) (refusal s)
  unfolding kind_refusal refusal
  kind-refusal-is = first-append (tests s) ((7, not (leb lo (number_of s) && leb (number_of s) hi)) ∷ []) tt

  pub kind-refused : (r : ℕ) → r ≡ refusal s → (r ≡ 0 → ⊥) → (r ≡ kind_refusal lo hi s) × ([] ≡ kind_row lo hi s)
  unfolding kind_row
  kind-refused r e f = rw (kind-refusal-is, ← e, ne_eqb r 0 f, ne_eqb r 0 f) (refl, refl)

  module _ (e : refusal s ≡ 0) where
    pub kind-low : number_of s < lo → (7 ≡ kind_refusal lo hi s) × ([] ≡ kind_row lo hi s)
    unfolding kind_row
    kind-low h = rw (kind-refusal-is, e, lt-leb lo (number_of s) h) (refl, refl)

    module _ (low : lo ≤ number_of s) where
      pub kind-high : hi < number_of s → (7 ≡ kind_refusal lo hi s) × ([] ≡ kind_row lo hi s)
      unfolding kind_row
      kind-high h = rw (kind-refusal-is, e, le-leb lo (number_of s) low, lt-leb (number_of s) hi h) (refl, refl)

      pub kind-read : number_of s ≤ hi → (0 ≡ kind_refusal lo hi s) × (row s ≡ kind_row lo hi s)
      unfolding kind_row
      kind-read h = rw (kind-refusal-is, e, le-leb lo (number_of s) low, le-leb (number_of s) hi h) (refl, refl)

-- what an answer of 0 says
pub record Kind (lo hi : ℕ) (s : List ℕ) : Type 0 where
  pub accepted : refusal s ≡ 0
  pub low : lo ≤ number_of s
  pub high : number_of s ≤ hi

pub kind-of : (lo hi : ℕ) (s : List ℕ) → kind_refusal lo hi s ≡ 0 → Kind lo hi s
kind-of lo hi s e = by (refusal s) (leb lo (number_of s)) (leb (number_of s) hi) refl refl refl (sym (kind-refusal-is lo hi s) ∙ e)
  where
    by : (r : ℕ) (a b : Bool) → r ≡ refusal s → a ≡ leb lo (number_of s) → b ≡ leb (number_of s) hi → cond (eqb r 0) (cond (not (a && b)) 7 0) r ≡ 0 → Kind lo hi s
    by zero true true p q t h = record { accepted = sym p; low = leb-true lo (number_of s) (sym q); high = leb-true (number_of s) hi (sym t) }
    by zero true false p q t h = absurd (lt_irrefl 0 (omega arith))
    by zero false b p q t h = absurd (lt_irrefl 0 (omega arith))
    by (suc r) a b p q t h = absurd (lt_irrefl 0 (let z : suc r ≡ 0 = rw (eqb-suc-zero r) at h in omega arith))

-- ---- reading into buffers

module _ (lo hi : ℕ) (s : List ℕ) where
  module _ (m n : ℕ) where
    kind-room-is : kind_room_refusal lo hi s m n ≡ cond (eqb (kind_refusal lo hi s) 0) (first (room_tests (layout s) m n)) (kind_refusal lo hi s)
    unfolding kind_room_refusal kind_refusal
    kind-room-is = first-append (kind_tests lo hi s) (room_tests (layout s) m n) tt

    -- a refusal of the message or its kind
    pub kind-kept : (r : ℕ) → r ≡ kind_refusal lo hi s → (r ≡ 0 → ⊥) → kind_room_refusal lo hi s m n ≡ r
    kind-kept r e f = rw (kind-room-is, ← e, ne_eqb r 0 f)

    refused-row : (refusal s ≡ 0 → ⊥) → refusal s ≡ row_refusal s m n
    unfolding row_refusal refusal
    refused-row f = stops (tests s) (room_tests (layout s) m n) tt refl f

    -- else that of any row
    pub kind_row_lem : kind_refusal lo hi s ≡ 0 → row_refusal s m n ≡ kind_room_refusal lo hi s m n
    unfolding row_refusal refusal
    kind_row_lem e = sym (goes_on (tests s) (room_tests (layout s) m n) tt (kind-of lo hi s e).accepted) ∙ sym (rw (kind-room-is, e))

    -- where the number that was read is one of the kind, that of any row
    pub kind-numbered : {k : ℕ} → k ≡ field_at s 0 12 → lo ≤ k → k ≤ hi → row_refusal s m n ≡ kind_room_refusal lo hi s m n
    kind-numbered {k} e a b = by (ℕ_discrete (refusal s) 0)
      where
        by : Dec (refusal s ≡ 0) → row_refusal s m n ≡ kind_room_refusal lo hi s m n
        by (yes z) =
            let g = e ∙ number_read s (head_of s (accepted-head s z)).long in
            kind_row_lem (sym (kind-read lo hi s z (rw g at a) (rw g at b)).0)
        by (no f) = sym (kind-kept (refusal s) (kind-refused lo hi s (refusal s) refl f).0 f ∙ refused-row f)

  -- where it is not, there is a refusal
  pub kind-other : {k : ℕ} → k ≡ field_at s 0 12 → (lo ≤ k → k ≤ hi → ⊥) → kind_refusal lo hi s ≡ 0 → ⊥
  kind-other {k} e f z =
      let o = kind-of lo hi s z in
      let g = e ∙ number_read s (head_of s (accepted-head s o.accepted)).long in
      f (rw (← g) at o.low) (rw (← g) at o.high)

  -- 96 places are room for any message
  pub kind-room : kind_room_refusal lo hi s 96 96 ≡ kind_refusal lo hi s
  kind-room = kind-room-is 96 96 ∙ rw (le-ltb 96 (length (layout s)) (omega (arith, layout-most s))) (by (kind_refusal lo hi s))
    where
      by : (r : ℕ) → cond (eqb r 0) 0 r ≡ r
      by zero = refl
      by (suc r) = rw (eqb-suc-zero r)

drop-same : {A : Type 0} (x : A) (j n : ℕ) → drop j (replicate n x) ≡ replicate (n - j) x
drop-same x zero n = simp unary_clauses
drop-same x (suc j) zero = let e : 0 ≡ 0 - suc j = omega arith in ap (λ (k : ℕ). replicate k x) e
drop-same x (suc j) (suc n) = simp unary_clauses (drop-same x j n)

-- what a row or none says, stored in buffers that say the value 0 at each place
stored-says : (t : Bool) (v : List (Option ℤ)) (m n k : ℕ) → let z : List ℤ = replicate m (pos 0) in
    let b : List ℕ = replicate n 1 in
    says (row_of (cond t (values_of v ++ drop (length (values_of v)) z) z) (cond t (present_of v ++ drop (length (present_of v)) b) b)) k ≡ says (cond t v []) k
stored-says true v m n k = rw (drop-same (pos 0) (length (values_of v)) m, drop-same {A = ℕ} 1 (length (present_of v)) n) (says-filled v (m - length (values_of v)) (n - length (present_of v)) k)
stored-says false v m n k = says-filled [] m n k

-- what the buffers say that one kind was read to
pub kind-says : (lo hi : ℕ) (s : List ℕ) (k : ℕ) → let r : ℕ = kind_room_refusal lo hi s 96 96 in
    says (row_of (values_read r s (replicate 96 (pos 0))) (present_read r s (replicate 96 1))) k ≡ says (kind_row lo hi s) k
unfolding stored kind_row
kind-says lo hi s k = rw (kind-room lo hi s) (stored-says (eqb (kind_refusal lo hi s) 0) (row s) 96 96 k)
