-- `heights_mean::all_near` meets its contract: each of the sixteen heights passes its test.
-- Assumes nothing.
use Rattle.std.proofs.Common.{rules, arith, ◌≡◌, ◌∙◌, refl, sym, ap, Bool, ℕ, zero, suc, ◌≤◌, take, take_all}
use borrow.Author.Tests.{tests}
use lib.ListN.{get_or}
use native.Mathlib.Numerals.{add-one}
use Rattle.std.proofs.lemmas.Int.{to_z-of_z}
use Rattle.std.proofs.lemmas.Iterator.{YieldsList-from_range}
use Rattle.std.proofs.lemmas.Iterator.Search.{all_from_yields_List}
use Rattle.std.proofs.lemmas.List.Folds.{list_all_more}
use Rattle.std.proofs.lemmas.List.FromFn.{length-range_with_len, get_or-range_with_len}
use Rattle.std.specs.List.{list_all, range_with_len}
use Rattle.arith.specs.Lists.{all_below}
use Rattle.heights_mean.specs.Means.{near_at, fits}
use Rattle.heights_mean.proofs.all_near.Goals as goal

-- the first k of the numbers below n
front : (f : ℕ → Bool) (n k : ℕ) → k ≤ n → list_all f (take k (range_with_len 0 n)) ≡ all_below f k
front f n zero h = refl
front f n (suc k) h =
    let here : get_or (range_with_len 0 n) k 0 ≡ k = omega (arith, get_or-range_with_len 0 n k 0 (omega arith)) in
    rw (← add-one k, list_all_more f (range_with_len 0 n) k 0 (omega (arith, length-range_with_len 0 n)), front f n k (omega arith), here) refl

all-of : (f : ℕ → Bool) (n : ℕ) → list_all f (range_with_len 0 n) ≡ all_below f n
all-of f n = ap (list_all f) (sym (take_all n (range_with_len 0 n) (omega (arith, length-range_with_len 0 n)))) ∙ front f n n (omega arith)

pub returns : goal.returns
unfolding fits
returns c = let f = near_at c.args.wanted.now c.args.mean in
    all_from_yields_List f _ _ c.all.result c.all.ensures.ran (YieldsList-from_range 0 16 16 refl refl) (λ x b q k. search (rules, tests, to_z-of_z)) ∙ all-of f 16
