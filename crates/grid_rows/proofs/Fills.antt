-- A row filled run by run: what stands in front of place i, and what a run adds.
-- Assumes nothing.
use mathlib.Core.Path.{◌≡◌, sym, ap, ◌∙◌}
use mathlib.Core.Bool.{cond}
use mathlib.Core.List.{List, ◌++◌, append_assoc}
use Prim.Native.Nat.{ℕ, ◌+◌, ◌-◌, ◌≤◌, ◌<◌}
use native.Mathlib.Omega.{arith}
use borrow.Author.Tests.{eq-eqb, ne_eqb}
use lib.Dec.{eqb}
use lib.IntN.{ℤ}
use lib.ListN.{length, take, drop}
use lib.Seq.{take_at, drop_at, drop-drop}
use Rattle.arith.specs.Lists.{up_to}
use Rattle.arith.proofs.Lists.{length-up_to, up_to-add}

-- the places 0 to i are filled, and then those to r
module _ (f : ℕ → ℤ) (row₀ row : List ℤ) (i : ℕ) (e : row ≡ up_to f i ++ drop i row₀) where
  pub fills-on : (r : ℕ) (after : List ℤ) → i < r → after ≡ take i row ++ (up_to (λ j. f (i + j)) (r - i) ++ drop r row) → after ≡ up_to f r ++ drop r row₀
  fills-on r after l h =
      let whole : i + (r - i) ≡ r = omega arith in
      let front : take i row ≡ up_to f i = ap (take i) e ∙ take_at (up_to f i) (drop i row₀) i (length-up_to f i) in
      let behind : drop i row ≡ drop i row₀ = ap (drop i) e ∙ drop_at (up_to f i) (drop i row₀) i (length-up_to f i) in
      let rest : drop r row ≡ drop r row₀ =
      ap (λ (m : ℕ). drop m row) (sym whole) ∙ sym (drop-add row) ∙ ap (drop (r - i)) behind ∙ drop-add row₀ ∙ ap (λ (m : ℕ). drop m row₀) whole in
      h ∙ (λ t. front t ++ (up_to (λ j. f (i + j)) (r - i) ++ rest t))
      ∙ sym (append_assoc (up_to f i) (up_to (λ j. f (i + j)) (r - i)) (drop r row₀))
      ∙ ap (λ (v : List ℤ). v ++ drop r row₀) (sym (up_to-add f i (r - i)) ∙ ap (up_to f) whole)
    where
      drop-add : (v : List ℤ) → drop (r - i) (drop i v) ≡ drop (i + (r - i)) v
      drop-add v = drop-drop (r - i) i v

-- a refusal keeps the row, and no refusal fills it
pub keeps : {r s : ℕ} (a b : List ℤ) → r ≡ s → (r ≡ 0 → ⊥) → b ≡ cond (eqb s 0) a b
keeps {r} {s} a b e h = rw (ne_eqb s 0 (λ z. h (e ∙ z)))

pub fills : {s : ℕ} (a b : List ℤ) → s ≡ 0 → a ≡ cond (eqb s 0) a b
fills {s} a b e = rw (eq-eqb s 0 e)
