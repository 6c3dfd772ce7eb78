-- Laws of counts. Rest on the definition.
-- Assumes nothing.
use Prim.Native.Nat.{ℕ, zero, suc, ◌+◌, ◌≤◌, ◌<◌}
use mathlib.Core.Bool.{Bool, true, false, cond, ◌||◌}
use mathlib.Core.Path.{◌≡◌, refl, sym, ap, ◌∙◌}
use native.Mathlib.Omega.{arith}
use native.Mathlib.Decide.{ℕ_discrete}
use mathlib.Core.List.{[], ◌∷◌, ◌++◌}
use lib.ListN.{length, length-append}
use native.Mathlib.Numerals.{add-one}
use Rattle.std.proofs.lemmas.List.{map-id}
use Rattle.std.specs.List.{filter, range_with_len}
use Rattle.std.proofs.lemmas.List.FromFn.{filter_of_map_range_with_len_more}
use Rattle.table.specs.Table.{count_of}

pub count_same : (p r : ℕ → Bool) (n : ℕ) → ((j : ℕ) → j < n → p j ≡ r j) → count_of p n ≡ count_of r n
unfolding count_of
count_same p r zero h = refl
count_same p r (suc n) h =
    rw (h n (omega arith), count_same p r n (λ j l. h j (omega arith)))

pub count-up : (p r : ℕ → Bool) (n i : ℕ) → i < n → ((j : ℕ) → j < n → (j ≡ i → ⊥) → p j ≡ r j) → p i ≡ false → r i ≡ true
    → count_of r n ≡ suc (count_of p n)
unfolding count_of
count-up p r zero i l h a b = absurd (omega arith)
count-up p r (suc n) i l h a b = go (ℕ_discrete i n) (λ k. count-up p r n i k (λ j m. h j (omega arith)) a b)
  where
    go : Dec (i ≡ n) → (i < n → count_of r n ≡ suc (count_of p n)) → cond (r n) (suc (count_of r n)) (count_of r n) ≡ suc (cond (p n) (suc (count_of p n)) (count_of p n))
    go (yes e) f =
        let x : p n ≡ false = ap p (sym e) ∙ a in
        let y : r n ≡ true = ap r (sym e) ∙ b in
        rw (x, y) (ap suc (sym (count_same p r n (λ j m. h j (omega arith) (λ q. omega arith)))))
    go (no k) f =
        let x : p n ≡ r n = h n (omega arith) (λ q. k (sym q)) in
        rw x (by (r n) (f (omega arith)))
      where
        by : (c : Bool) → count_of r n ≡ suc (count_of p n) → cond c (suc (count_of r n)) (count_of r n) ≡ suc (cond c (suc (count_of p n)) (count_of p n))
        by true e = ap suc e
        by false e = e

pub count-le : (p : ℕ → Bool) (n : ℕ) → count_of p n ≤ n
unfolding count_of
count-le p zero = omega arith
count-le p (suc n) = go (p n) (count-le p n)
  where
    go : (b : Bool) → count_of p n ≤ n → cond b (suc (count_of p n)) (count_of p n) ≤ suc n
    go true h = omega arith
    go false h = omega arith

pub count-all : (p : ℕ → Bool) (n : ℕ) → ((j : ℕ) → j < n → p j ≡ true) → count_of p n ≡ n
unfolding count_of
count-all p zero h = refl
count-all p (suc n) h = rw (h n (omega arith)) (ap suc (count-all p n (λ j l. h j (omega arith))))

pub count-lt : (p : ℕ → Bool) (n i : ℕ) → i < n → p i ≡ false → count_of p n < n
unfolding count_of
count-lt p zero i l e = absurd (omega arith)
count-lt p (suc n) i l e = go (ℕ_discrete i n) (λ k. count-lt p n i k e) (count-le p n)
  where
    go : Dec (i ≡ n) → (i < n → count_of p n < n) → count_of p n ≤ n → cond (p n) (suc (count_of p n)) (count_of p n) < suc n
    go (yes q) f u = rw (ap p (sym q) ∙ e) (omega arith)
    go (no k) f u = by (p n) (f (omega arith))
      where
        by : (c : Bool) → count_of p n < n → cond c (suc (count_of p n)) (count_of p n) < suc n
        by true h = omega arith
        by false h = omega arith

-- what passes one of two tests that never pass together
pub count-sum : (p q r : ℕ → Bool) (n : ℕ) → ((j : ℕ) → j < n → p j ≡ (q j || r j)) → ((j : ℕ) → j < n → q j ≡ true → r j ≡ false)
    → count_of p n ≡ count_of q n + count_of r n
unfolding count_of
count-sum p q r zero h o = refl
count-sum p q r (suc n) h o = rw (h n (omega arith)) (by (q n) (r n) (o n (omega arith)) (count-sum p q r n (λ j l. h j (omega arith)) (λ j l. o j (omega arith))))
  where
    P : ℕ
    P = count_of p n

    Q : ℕ
    Q = count_of q n

    R : ℕ
    R = count_of r n

    by : (a b : Bool) → (a ≡ true → b ≡ false) → P ≡ Q + R → cond (a || b) (suc P) P ≡ cond a (suc Q) Q + cond b (suc R) R
    by true b u e = rw (u refl) (omega arith)
    by false true u e = omega arith
    by false false u e = e

-- the numbers below n that pass
pub count-filter : (p : ℕ → Bool) (n : ℕ) → length (filter p (range_with_len 0 n)) ≡ count_of p n
unfolding count_of
count-filter p zero = refl
count-filter p (suc n) =
    let e : filter p (range_with_len 0 (n + 1)) ≡ filter p (range_with_len 0 n) ++ cond (p n) (n ∷ []) [] =
    simp map-id at (filter_of_map_range_with_len_more p (λ (x : ℕ). x) 0 n n (omega arith)) in
    ap (λ (k : ℕ). length (filter p (range_with_len 0 k))) (sym (add-one n)) ∙ ap length e
    ∙ length-append (filter p (range_with_len 0 n)) (cond (p n) (n ∷ []) [])
    ∙ by (p n) (count-filter p n)
  where
    by : (b : Bool) → length (filter p (range_with_len 0 n)) ≡ count_of p n → length (filter p (range_with_len 0 n)) + length (cond b (n ∷ []) []) ≡ cond b (suc (count_of p n)) (count_of p n)
    by true e = omega arith
    by false e = omega arith
