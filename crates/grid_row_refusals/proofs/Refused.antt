-- The refusal of the first of n places refused, f k being that of place k.
-- Assumes nothing.
use mathlib.Core.Path.{◌≡◌, refl, sym, ap, ◌∙◌}
use mathlib.Core.Bool.{Bool, true, false, not, cond, ◌&&◌}
use mathlib.Core.List.{List, [], ◌∷◌, ◌++◌, append_assoc}
use Prim.Native.Nat.{ℕ, zero, suc, ◌+◌, ◌-◌, ◌≤◌, ◌<◌}
use native.Mathlib.Nat.{not-suc-le-zero}
use native.Mathlib.Numerals.{add-one}
use native.Mathlib.Omega.{arith}
use borrow.Author.Tests.{eq-eqb, ne_eqb}
use lib.Dec.{eqb, eqb-suc-zero}
use Rattle.arith.specs.First.{Test, first}
use Rattle.arith.specs.Lists.{up_to, all_below}
use Rattle.arith.proofs.Lists.{up_to-add, up_to-same}

-- a test that gives its own number, unless that is 0
abbrev pub test : ℕ → Test
test r = (r, not (eqb r 0))

abbrev pub refused : (ℕ → ℕ) → ℕ → ℕ
refused f n = first (up_to (λ k. test (f k)) n)

-- the tests of places, and others behind them
pub behind : (f : ℕ → ℕ) (n : ℕ) (ts : List Test) → first (up_to (λ k. test (f k)) n ++ ts) ≡ cond (eqb (refused f n) 0) (first ts) (refused f n)
behind f zero ts = refl
behind f (suc n) ts =
    ap first (append_assoc (up_to (λ k. test (f k)) n) (test (f n) ∷ []) ts)
    ∙ behind f n (test (f n) ∷ ts)
    ∙ by (refused f n) (f n)
    ∙ sym (ap (λ (m : ℕ). cond (eqb m 0) (first ts) m) (behind f n (test (f n) ∷ [])))
  where
    by : (a b : ℕ) → cond (eqb a 0) (cond (not (eqb b 0)) b (first ts)) a ≡ cond (eqb (cond (eqb a 0) (cond (not (eqb b 0)) b 0) a) 0) (first ts) (cond (eqb a 0) (cond (not (eqb b 0)) b 0) a)
    by zero zero = refl
    by zero (suc b) = simp eqb-suc-zero
    by (suc a) b = simp eqb-suc-zero

module _ (f : ℕ → ℕ) where
  -- n places, and m behind them
  pub joined : (n m : ℕ) → refused f (n + m) ≡ cond (eqb (refused f n) 0) (refused (λ k. f (n + k)) m) (refused f n)
  joined n m = ap first (up_to-add (λ k. test (f k)) n m) ∙ behind f n (up_to (λ k. test (f (n + k))) m)

  pub goes_on : (n m : ℕ) → refused f n ≡ 0 → refused f (n + m) ≡ refused (λ k. f (n + k)) m
  goes_on n m e = joined n m ∙ rw (eq-eqb (refused f n) 0 e)

  -- a refusal among the first is that of all
  pub stops : (n m : ℕ) → (refused f n ≡ 0 → ⊥) → n ≤ m → refused f n ≡ refused f m
  stops n m h l =
      let e : n + (m - n) ≡ m = omega arith in
      sym (ap (refused f) (sym e) ∙ joined n (m - n) ∙ rw (ne_eqb (refused f n) 0 h))

  pub one : refused f 1 ≡ f 0
  one = by (f 0)
    where
      by : (a : ℕ) → cond (not (eqb a 0)) a 0 ≡ a
      by zero = refl
      by (suc a) = rw (eqb-suc-zero a)

  -- none refused
  pub none_of_lem : (n : ℕ) → refused f n ≡ 0 → (k : ℕ) → k < n → f k ≡ 0
  none_of_lem n e k l =
      let is : k + 1 + (n - (k + 1)) ≡ n = omega arith in
      let upto : refused f (k + 1) ≡ 0 = front (refused f (k + 1)) _ (sym (joined (k + 1) (n - (k + 1))) ∙ ap (refused f) is ∙ e) in
      last (refused f k) (f k) (sym (behind f k (test (f k) ∷ [])) ∙ ap (refused f) (sym (add-one k)) ∙ upto)
    where
      front : (a b : ℕ) → cond (eqb a 0) b a ≡ 0 → a ≡ 0
      front zero b h = refl
      front (suc a) b h = rw (eqb-suc-zero a) at h

      last : (a b : ℕ) → cond (eqb a 0) (cond (not (eqb b 0)) b 0) a ≡ 0 → b ≡ 0
      last zero zero h = refl
      last zero (suc b) h = rw (eqb-suc-zero b) at h
      last (suc a) b h = let z : suc a ≡ 0 = rw (eqb-suc-zero a) at h in absurd (omega arith)

pub none-refused : (f : ℕ → ℕ) (n : ℕ) → ((k : ℕ) → k < n → f k ≡ 0) → refused f n ≡ 0
none-refused f zero h = refl
none-refused f (suc n) h = behind f n (test (f n) ∷ []) ∙ rw (none-refused f n (λ k l. h k (omega arith)), h n (omega arith))

-- the first place refused
pub first-refused : (f : ℕ → ℕ) (n k : ℕ) → k < n → ((j : ℕ) → j < k → f j ≡ 0) → (f k ≡ 0 → ⊥) → f k ≡ refused f n
first-refused f n k l before h =
    let z : k + 0 ≡ k = omega arith in
    let is : refused f (k + 1) ≡ f k = goes_on f k 1 (none-refused f k before) ∙ one (λ j. f (k + j)) ∙ ap f z in
    sym is ∙ stops f (k + 1) n (λ q. h (sym is ∙ q)) (omega arith)

-- places that say the same
pub refused-same : (f g : ℕ → ℕ) (n : ℕ) → ((k : ℕ) → k < n → f k ≡ g k) → refused f n ≡ refused g n
refused-same f g n h = ap first (up_to-same (λ k. test (f k)) (λ k. test (g k)) n (λ k l. ap test (h k l)))

-- 15 where a test holds
pub fifteen : (l : ℕ → Bool) (n : ℕ) → refused (λ k. cond (l k) 15 0) n ≡ cond (all_below (λ k. not (l k)) n) 0 15
fifteen l zero = refl
fifteen l (suc n) = behind (λ k. cond (l k) 15 0) n (test (cond (l n) 15 0) ∷ []) ∙ rw (fifteen l n) (by (all_below (λ k. not (l k)) n) (l n))
  where
    by : (a b : Bool) → ◌≡◌ {A = ℕ} (cond (eqb (cond a 0 15) 0) (cond (not (eqb (cond b 15 0) 0)) (cond b 15 0) 0) (cond a 0 15)) (cond (a && not b) 0 15)
    by true true = refl
    by true false = refl
    by false b = refl
