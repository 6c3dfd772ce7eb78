-- Laws of up_to: its length, its elements, its parts, and a loop that fills a list from the front, one store a round; and of padded and all_below.
-- Assumes nothing.
use Prim.Native.Nat.{ℕ, zero, suc, ◌+◌, ◌-◌, ◌<◌, ◌≤◌}
use native.Mathlib.Nat.{add-zero, add-suc, lt-suc_self, lt_trans, eq-or-lt_of_le, le_of_suc-le-suc, not-suc-le-zero, sub-zero, zero-sub, suc-sub-suc}
use native.Mathlib.Numerals.{add-one}
use mathlib.Core.Path.{◌≡◌, refl, sym, ap, subst, ◌∙◌}
use mathlib.Core.Logic.{⊎_elim}
use mathlib.Core.List.{List, [], ◌∷◌, ◌++◌, append_assoc, append-nil}
use lib.ListN.{length, get_or, set, drop, replicate, length-append, get_or-append, drop_of_length-le}
use lib.Seq.{set_at, get_or_at, drop-cons, ext_get_or}
use lib.IntN.{ℤ, pos}
use mathlib.Core.Bool.{Bool, true}
use Rattle.arith.specs.Lists.{up_to, all_below, at}
use Rattle.arith.specs.Inner.{padded}

module _ {A : Type 0} (f : ℕ → A) where
  pub length-up_to : (k : ℕ) → length (up_to f k) ≡ k
  length-up_to zero = refl
  length-up_to (suc k) = length-append (up_to f k) (f k ∷ []) ∙ ap (λ (n : ℕ). n + 1) (length-up_to k) ∙ add-one k

  pub get_d-up_to : (k i : ℕ) (d : A) → i < k → get_or (up_to f k) i d ≡ f i
  get_d-up_to zero i d h = absurd (not-suc-le-zero h)
  get_d-up_to (suc k) i d h =
      ⊎_elim
      (λ e. subst (λ (n : ℕ). get_or (up_to f k ++ (f k ∷ [])) n d ≡ f n) (sym e) (get_or_at (up_to f k) (f k) [] d k (length-up_to k)))
      (λ l. get_or-append (up_to f k) (f k ∷ []) d i (subst (λ (n : ℕ). i < n) (sym (length-up_to k)) l) ∙ get_d-up_to k i d l)
      (eq-or-lt_of_le (le_of_suc-le-suc h))

  -- a store of f i at place i, where those before are stored: the loop's round
  pub fill_more : (xs : List A) (i : ℕ) (d : A) → i < length xs → set (up_to f i ++ drop i xs) i (f i) ≡ up_to f (i + 1) ++ drop (i + 1) xs
  fill_more xs i d h =
      rw (add-one i, drop-cons xs i d h, set_at (up_to f i) (get_or xs i d) (drop (suc i) xs) (f i) i (length-up_to i))
      (sym (append_assoc (up_to f i) (f i ∷ []) (drop (suc i) xs)))

  -- a list whose elements are those of f is up_to f
  pub is-up_to : (k : ℕ) (d : A) (xs : List A) → length xs ≡ k → ((i : ℕ) → i < k → get_or xs i d ≡ f i) → xs ≡ up_to f k
  is-up_to k d xs e h =
      ext_get_or d xs (up_to f k) (e ∙ sym (length-up_to k))
      (λ i l. let b : i < k = subst (λ (n : ℕ). i < n) e l in h i b ∙ sym (get_d-up_to k i d b))

  -- the same as a loop's round has it: the list so far is ys, and a is stored
  pub fill-turn : (xs ys : List A) (i : ℕ) (a d : A) → ys ≡ up_to f i ++ drop i xs → a ≡ f i → i < length xs → set ys i a ≡ up_to f (i + 1) ++ drop (i + 1) xs
  fill-turn xs ys i a d p q h = rw (p, q) (fill_more xs i d h)

  -- after the last round
  pub fill_done : (xs ys : List A) (i k : ℕ) → ys ≡ up_to f i ++ drop i xs → i ≡ k → length xs ≤ k → ys ≡ up_to f k
  fill_done xs ys i k p e h =
      p ∙ ap (λ (n : ℕ). up_to f n ++ drop n xs) e ∙ ap (λ (l : List A). up_to f k ++ l) (drop_of_length-le xs h) ∙ append-nil (up_to f k)

pub drop-replicate : {A : Type 0} (n k : ℕ) (a : A) → drop k (replicate n a) ≡ replicate (n - k) a
drop-replicate zero zero a = refl
drop-replicate zero (suc k) a = ap (λ (m : ℕ). replicate m a) (sym (zero-sub (suc k)))
drop-replicate (suc n) zero a = ap (λ (m : ℕ). replicate m a) (sym (sub-zero (suc n)))
drop-replicate (suc n) (suc k) a = drop-replicate n k a ∙ ap (λ (m : ℕ). replicate m a) (sym (suc-sub-suc n k))

-- the first a, and the b behind them
pub up_to-add : {A : Type 0} (f : ℕ → A) (a b : ℕ) → up_to f (a + b) ≡ up_to f a ++ up_to (λ k. f (a + k)) b
up_to-add f a zero = ap (up_to f) (add-zero a) ∙ sym (append-nil (up_to f a))
up_to-add {A} f a (suc b) =
    ap (up_to f) (add-suc a b)
    ∙ ap (λ (l : List A). l ++ (f (a + b) ∷ [])) (up_to-add f a b)
    ∙ append_assoc (up_to f a) (up_to (λ k. f (a + k)) b) (f (a + b) ∷ [])

pub up_to-same : {A : Type 0} (f g : ℕ → A) (k : ℕ) → ((j : ℕ) → j < k → f j ≡ g j) → up_to f k ≡ up_to g k
up_to-same f g zero h = refl
up_to-same f g (suc k) h = λ i. up_to-same f g k (λ j l. h j (lt_trans l (lt-suc_self k))) i ++ (h k (lt-suc_self k) i ∷ [])

get_d-rest : {A : Type 0} (n k : ℕ) (z : A) → get_or (replicate n z) k z ≡ z
get_d-rest zero k z = refl
get_d-rest (suc n) zero z = refl
get_d-rest (suc n) (suc k) z = get_d-rest n k z

-- behind a list's end stands what fills it up
pub get_d-filled : {A : Type 0} (v : List A) (n k : ℕ) (z : A) → get_or (v ++ replicate n z) k z ≡ get_or v k z
get_d-filled [] n k z = get_d-rest n k z
get_d-filled (x ∷ v) n zero z = refl
get_d-filled (x ∷ v) n (suc k) z = get_d-filled v n k z

pub at-padded : (v : List ℤ) → at (padded v) ≡ at v
unfolding padded
at-padded v = λ i k. get_d-filled v (96 - length v) k (pos 0) i

-- what holds of each holds of all
pub all_true : (f : ℕ → Bool) (n : ℕ) → ((k : ℕ) → k < n → f k ≡ true) → all_below f n ≡ true
all_true f zero h = refl
all_true f (suc n) h = rw (all_true f n (λ k l. h k (lt_trans l (lt-suc_self n)))) (h n (lt-suc_self n))
