-- How long layouts are: their fields, and their bits.
-- Assumes nothing.
use Prim.Native.Nat.{ℕ, suc, ◌+◌, ◌*◌, ◌≤◌, ◌<◌}
use native.Mathlib.Omega.{arith}
use mathlib.Core.Path.{◌≡◌, ◌∙◌, refl, subst}
use mathlib.Core.Bool.{Bool, true, false, cond}
use mathlib.Core.List.{List, [], ◌∷◌, ◌++◌}
use mathlib.Core.Logic.{⊎_elim}
use native.Mathlib.Nat.{lt_irrefl, eq-or-lt_of_le}
use borrow.Author.Tests.{le-leb, ne_eqb}
use lib.Dec.{eqb}
use lib.ListN.{length, replicate, length-append, length-replicate}
use Rattle.layout.specs.Layout.{uint, total}
use Rattle.layout.proofs.Round.{total-append, total-times}
use Rattle.layout_tables.specs.Layouts.{names, tail1021, tail1022, layout1021, layout1022, layout1023, layout1024, layout1025, layout1026, layout1027, layout_of}
use Rattle.layout_tables.specs.Inner.{layout_by}

-- ---- fields

pub length-1021 : (n m : ℕ) → length (layout1021 n m) ≡ 25 + n + m
unfolding layout1021 tail1021
length-1021 n m = simp (length-append, length-replicate) (omega arith)

pub length-1022 : (n m : ℕ) → length (layout1022 n m) ≡ 28 + n + m
unfolding layout1022 tail1022
length-1022 n m = simp (length-append, length-replicate) (omega arith)

pub length-1023 : length layout1023 ≡ 64
unfolding layout1023
length-1023 = refl

pub length-1024 : length layout1024 ≡ 64
unfolding layout1024
length-1024 = refl

pub length-1025 : length layout1025 ≡ 8
unfolding layout1025
length-1025 = refl

pub length-1026 : length layout1026 ≡ 9
unfolding layout1026
length-1026 = refl

pub length-1027 : length layout1027 ≡ 11
unfolding layout1027
length-1027 = refl

-- one of two lists that are not longer than k
shorter : (b : Bool) (x y : List ℕ) (k : ℕ) → length x ≤ k → length y ≤ k → length (cond b x y) ≤ k
shorter true x y k p q = p
shorter false x y k p q = q

pub length-layout : (k n m : ℕ) → n ≤ 31 → m ≤ 31 → length (layout_of k n m) ≤ 90
unfolding layout_of
length-layout k n m p q =
    shorter (eqb k 1021) (layout1021 n m) _ 90 (omega (arith, length-1021 n m))
    (shorter (eqb k 1022) (layout1022 n m) _ 90 (omega (arith, length-1022 n m))
    (shorter (eqb k 1023) layout1023 _ 90 (omega (arith, length-1023))
    (shorter (eqb k 1024) layout1024 _ 90 (omega (arith, length-1024))
    (shorter (eqb k 1025) layout1025 _ 90 (omega (arith, length-1025))
    (shorter (eqb k 1026) layout1026 _ 90 (omega (arith, length-1026))
    (shorter (eqb k 1027) layout1027 [] 90 (omega (arith, length-1027)) (omega arith)))))))

-- ---- bits

pub total-names : (n m : ℕ) → total (names n m) ≡ 22 + 8 * n + 8 * m
unfolding total
total-names n m =
    rw (
      total-append ((uint 12 ∷ uint 5 ∷ []) ++ replicate n (uint 8) ++ (uint 5 ∷ [])) (replicate m (uint 8)),
      total-append ((uint 12 ∷ uint 5 ∷ []) ++ replicate n (uint 8)) (uint 5 ∷ []),
      total-append (uint 12 ∷ uint 5 ∷ []) (replicate n (uint 8)),
      total-times n,
      total-times m,
    )
    (omega arith)

-- table 3.2-1: 51.5 and 64.625 bytes plus the names, 72.25, 73.75, 24.5, 29.25 and 32.25 bytes
pub total-1021 : (n m : ℕ) → total (layout1021 n m) ≡ 412 + 8 * (n + m)
unfolding layout1021 tail1021 total
total-1021 n m = total-append (names n m) _ ∙ omega (arith, total-names n m)

pub total-1022 : (n m : ℕ) → total (layout1022 n m) ≡ 517 + 8 * (n + m)
unfolding layout1022 tail1022 total
total-1022 n m = total-append (names n m) _ ∙ omega (arith, total-names n m)

pub total-1023 : total layout1023 ≡ 578
unfolding layout1023 total
total-1023 = refl

pub total-1024 : total layout1024 ≡ 590
unfolding layout1024 total
total-1024 = refl

pub total-1025 : total layout1025 ≡ 196
unfolding layout1025 total
total-1025 = refl

pub total-1026 : total layout1026 ≡ 234
unfolding layout1026 total
total-1026 = refl

pub total-1027 : total layout1027 ≡ 258
unfolding layout1027 total
total-1027 = refl

-- ---- by number

-- what holds of each of the seven numbers
pub by_number : (P : ℕ → Type 0) (k : ℕ) → 1021 ≤ k → k ≤ 1027 → P 1021 → P 1022 → P 1023 → P 1024 → P 1025 → P 1026 → P 1027 → P k
by_number P k lo hi a b c d e f g =
    is 1021 a (is 1022 b (is 1023 c (is 1024 d (is 1025 e (is 1026 f (is 1027 g (λ h. absurd (lt_irrefl k (omega arith))))))))) lo
  where
    is : (n : ℕ) → P n → (suc n ≤ k → P k) → n ≤ k → P k
    is n p other h = ⊎_elim (λ (q : n ≡ k). subst P q p) other (eq-or-lt_of_le h)

-- the counters matter to 1021 and 1022 alone
pub unnamed-layout : (k n m n' m' : ℕ) → 1022 < k → layout_of k n m ≡ layout_of k n' m'
unfolding layout_of
unnamed-layout k n m n' m' h = rw (ne_eqb k 1021 (λ e. omega arith), ne_eqb k 1022 (λ e. omega arith))

-- the counters of messages are the layout's own
pub layout-by : (k n m : ℕ) → n ≤ 31 → m ≤ 31 → layout_by k n m ≡ layout_of k n m
unfolding layout_by
layout-by k n m p q = rw (le-leb n 31 p, le-leb m 31 q)
