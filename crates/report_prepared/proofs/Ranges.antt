-- `all` over the numbers below n, as `all_below` says it.
-- Assumes nothing.
use Rattle.std.proofs.Common.{arith, ◌≡◌, ◌∙◌, refl, sym, ap, Bool, ℕ, zero, suc, ◌≤◌, take, take_all}
use lib.ListN.{get_or}
use native.Mathlib.Numerals.{add-one}
use Rattle.std.proofs.lemmas.List.Folds.{list_all_more}
use Rattle.std.proofs.lemmas.List.FromFn.{length-range_with_len, get_or-range_with_len}
use Rattle.std.specs.List.{list_all, range_with_len}
use Rattle.arith.specs.Lists.{all_below}

-- the first k of the numbers below n
front : (f : ℕ → Bool) (n k : ℕ) → k ≤ n → list_all f (take k (range_with_len 0 n)) ≡ all_below f k
front f n zero h = refl
front f n (suc k) h =
    let here : get_or (range_with_len 0 n) k 0 ≡ k = omega (arith, get_or-range_with_len 0 n k 0 (omega arith)) in
    rw (← add-one k, list_all_more f (range_with_len 0 n) k 0 (omega (arith, length-range_with_len 0 n)), front f n k (omega arith), here) refl

pub all-of : (f : ℕ → Bool) (n : ℕ) → list_all f (range_with_len 0 n) ≡ all_below f n
all-of f n = ap (list_all f) (sym (take_all n (range_with_len 0 n) (omega (arith, length-range_with_len 0 n)))) ∙ front f n n (omega arith)
