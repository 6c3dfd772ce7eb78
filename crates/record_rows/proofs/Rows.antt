-- What a row says: a value or none at each place of both its buffers, and the value 0 behind them; a name counter is at most 31.
-- Assumes nothing.
use Rattle.std.proofs.Common.{Option, Some, None}
use Prim.Native.Nat.{ℕ, zero, suc, ◌≤◌, ◌<◌}
use native.Mathlib.Nat.{not-suc-le-zero}
use native.Mathlib.Omega.{arith}
use mathlib.Core.Path.{◌≡◌, refl, sym, ap}
use mathlib.Core.Bool.{Bool, true, false, cond, ◌&&◌}
use mathlib.Core.List.{List, [], ◌∷◌, ◌++◌}
use borrow.Author.Tests.{leb-true, ltb-true, ltb-false}
use lib.Dec.{leb, ltb}
use lib.IntN.{ℤ, pos}
use lib.ListN.{length, get_or, replicate}
use Rattle.arith.specs.Lists.{up_to, at}
use Rattle.arith.specs.Whole.{natural}
use Rattle.arith.proofs.Lists.{is-up_to}
use Rattle.layout.specs.Layout.{value_in, present_in, reading_in, row_of}
use Rattle.layout.proofs.Round.{row_in}
use Rattle.record_rows.specs.Numbers.{says, values_of, present_of, number_at, counter_at}

pub all_of : (v : List (Option ℤ)) (n : ℕ) → length v ≡ n → up_to (says v) n ≡ v
all_of v n e = sym (is-up_to (says v) n (Some (pos 0)) v e (λ i h. refl))

pub counter-most : (v : ℕ → Option ℤ) (k : ℕ) → counter_at v k ≤ 31
counter-most v k = by (leb (natural (number_at v k)) 31) refl
  where
    by : (b : Bool) → leb (natural (number_at v k)) 31 ≡ b → cond b (natural (number_at v k)) 0 ≤ 31
    by true e = leb-true (natural (number_at v k)) 31 e
    by false e = omega arith

-- a place that says a value
abbrev pub Valued : Option ℤ → Type 0
Valued r = r ≡ Some (value_in r)

-- ---- what a place says, by its two buffers

pub says_both : (z : List ℤ) (b : List ℕ) (k : ℕ) → k < length z → k < length b → says (row_of z b) k ≡ reading_in (at z k) (get_or b k 0)
unfolding row_of
says_both [] b k h l = absurd (not-suc-le-zero h)
says_both (x ∷ z) [] k h l = absurd (not-suc-le-zero l)
says_both (x ∷ z) (y ∷ b) zero h l = refl
says_both (x ∷ z) (y ∷ b) (suc k) h l = says_both z b k (omega arith) (omega arith)

pub says-behind-values : (z : List ℤ) (b : List ℕ) (k : ℕ) → length z ≤ k → says (row_of z b) k ≡ Some (pos 0)
unfolding row_of
says-behind-values [] b k h = refl
says-behind-values (x ∷ z) [] k h = refl
says-behind-values (x ∷ z) (y ∷ b) zero h = absurd (not-suc-le-zero h)
says-behind-values (x ∷ z) (y ∷ b) (suc k) h = says-behind-values z b k (omega arith)

pub says-behind-bytes : (z : List ℤ) (b : List ℕ) (k : ℕ) → length b ≤ k → says (row_of z b) k ≡ Some (pos 0)
unfolding row_of
says-behind-bytes [] b k h = refl
says-behind-bytes (x ∷ z) [] k h = refl
says-behind-bytes (x ∷ z) (y ∷ b) zero h = absurd (not-suc-le-zero h)
says-behind-bytes (x ∷ z) (y ∷ b) (suc k) h = says-behind-bytes z b k (omega arith)

pub says_row : (z : List ℤ) (b : List ℕ) (k : ℕ) → says (row_of z b) k ≡ cond (ltb k (length z) && ltb k (length b)) (reading_in (at z k) (get_or b k 0)) (Some (pos 0))
says_row z b k = by (ltb k (length z)) (ltb k (length b)) refl refl
  where
    by : (x y : Bool) → ltb k (length z) ≡ x → ltb k (length b) ≡ y → says (row_of z b) k ≡ cond (x && y) (reading_in (at z k) (get_or b k 0)) (Some (pos 0))
    by true true p q = says_both z b k (ltb-true k (length z) p) (ltb-true k (length b) q)
    by true false p q = says-behind-bytes z b k (ltb-false k (length b) q)
    by false y p q = says-behind-values z b k (ltb-false k (length z) p)

-- ---- a row's own buffers say the row, and so do they with zeros and ones behind them

pub says-in : (v : List (Option ℤ)) (k : ℕ) → says (row_of (values_of v) (present_of v)) k ≡ says v k
says-in v k = ap (λ (r : List (Option ℤ)). says r k) (row_in v)

says-rest : (m n k : ℕ) → says (row_of (replicate m (pos 0)) (replicate n 1)) k ≡ Some (pos 0)
unfolding row_of
says-rest zero n k = refl
says-rest (suc m) zero k = refl
says-rest (suc m) (suc n) zero = refl
says-rest (suc m) (suc n) (suc k) = says-rest m n k

pub says-filled : (v : List (Option ℤ)) (m n k : ℕ) → says (row_of (values_of v ++ replicate m (pos 0)) (present_of v ++ replicate n 1)) k ≡ says v k
unfolding row_of
says-filled [] m n k = says-rest m n k
says-filled (r ∷ v) m n zero = by r
  where
    by : (r : Option ℤ) → reading_in (value_in r) (present_in r) ≡ r
    by (Some z) = refl
    by None = refl
says-filled (r ∷ v) m n (suc k) = says-filled v m n k
