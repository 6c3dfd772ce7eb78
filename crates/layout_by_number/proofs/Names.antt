-- The names of a layout: entries that are all characters, with the number and both counters set.
-- Assumes nothing.
use Prim.Native.Nat.{ℕ, zero, suc, ◌+◌, ◌≤◌, ◌<◌}
use native.Mathlib.Omega.{arith}
use mathlib.Core.Path.{◌≡◌, ap, refl}
use mathlib.Core.List.{List, [], ◌∷◌, ◌++◌}
use lib.ListN.{length, take, set, replicate, length-set}
use Rattle.layout.specs.Layout.{uint}
use Rattle.layout_tables.specs.Layouts.{names}

taken-of-same : (m k e : ℕ) → m ≤ k → take m (replicate k e) ≡ replicate m e
taken-of-same zero k e h = refl
taken-of-same (suc m) zero e h = absurd (omega arith)
taken-of-same (suc m) (suc k) e h = ap (◌∷◌ e) (taken-of-same m k e (omega arith))

-- n characters, a counter, m characters
two-names : (n m k l : ℕ) → l ≡ n + m → l < k → take (suc l) (set (replicate k (uint 8)) n (uint 5)) ≡ replicate n (uint 8) ++ (uint 5 ∷ []) ++ replicate m (uint 8)
two-names n m zero l e h = absurd (omega arith)
two-names zero m (suc k) l e h = let f : l ≡ m = omega arith in rw f (ap (◌∷◌ (uint 5)) (taken-of-same m k (uint 8) (omega arith)))
two-names (suc n) m (suc k) zero e h = absurd (omega arith)
two-names (suc n) m (suc k) (suc l) e h = ap (◌∷◌ (uint 8)) (two-names n m k l (omega arith) (omega arith))

module _ (n m : ℕ) where
  -- the entries before the tail is stored
  abbrev pub begun : List ℕ
  begun = set (uint 12 ∷ uint 5 ∷ replicate 94 (uint 8)) (n + 2) (uint 5)

  pub length-begun : length begun ≡ 96
  length-begun = length-set (uint 12 ∷ uint 5 ∷ replicate 94 (uint 8)) (n + 2) (uint 5)

  pub names-taken : n ≤ 31 → m ≤ 31 → take (n + m + 3) begun ≡ names n m
  names-taken p q =
      let a : n + m + 3 ≡ suc (suc (suc (n + m))) = omega arith in
      let b : n + 2 ≡ suc (suc n) = omega arith in
      rw (a, b) (ap (λ (l : List ℕ). uint 12 ∷ uint 5 ∷ l) (two-names n m 94 (n + m) refl (omega arith)))
