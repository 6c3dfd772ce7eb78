-- Every cell whose closed rectangle holds a place gives it the same exact weighted mean and the same refusal.
-- Assumes nothing.
use mathlib.Core.Path.{◌≡◌, refl, ap, ap₂, sym, ◌∙◌, fun_ext}
use mathlib.Core.Bool.{Bool, true, false, not, ◌&&◌, ◌||◌, or_assoc, or-false, and_assoc, and-false}
use Prim.Native.Nat.{ℕ, zero, suc, ◌+◌, ◌*◌, ◌-◌, ◌≤◌, ◌<◌}
use native.Mathlib.Nat.{mul-zero, zero-mul, mul-pos, zero-lt-suc, not-suc-le-zero}
use lib.Dec.{eqb, eqb-suc-zero}
use Rattle.grid_bilinear.specs.Bilinear.{Surface, cell, in_cell, exact, lacks, absent_in}
use Rattle.grid_bilinear.proofs.Line.{mix, mix-meets, Meets, piece_of, shared}
use Rattle.grid_bilinear.proofs.Cells.{pieces, cell-pieces, row-north}

module _ (H W : ℕ) (p_h : 0 < H) (p_w : 0 < W) (k l y x : ℕ) (hk : k ≤ 2) (hl : l ≤ 2) (y₁ : k * H ≤ y) (y₂ : y ≤ suc k * H) (x₁ : l * W ≤ x) (x₂ : x ≤ suc l * W) where
  pieces-shared : {X : Type 0} (m : ℕ → ℕ → X → X → X) → ((d : ℕ) → Meets m d) → (v : ℕ → ℕ → X) →
      pieces m H W v (cell H y) (cell W x) y x ≡ pieces m H W v k l y x
  unfolding pieces
  pieces-shared m meets v =
      shared m H (meets H) (λ i. piece_of m W (v i) (cell W x) x) k y p_h hk y₁ y₂
      ∙ ap (λ f. piece_of m H f k y) (fun_ext (λ i. shared m W (meets W) (v i) l x p_w hl x₁ x₂))

-- ---- the exact mean

pub shared-exact : (g : Surface) → 0 < g.H → 0 < g.W → (k l y x : ℕ) → k ≤ 2 → l ≤ 2 → k * g.H ≤ y → y ≤ suc k * g.H → l * g.W ≤ x → x ≤ suc l * g.W →
    exact g y x ≡ in_cell g k l y x
unfolding exact
shared-exact g p_h p_w k l y x hk hl y₁ y₂ x₁ x₂ =
    cell-pieces g (cell g.H y) (cell g.W x) y x
    ∙ pieces-shared g.H g.W p_h p_w k l y x hk hl y₁ y₂ x₁ x₂ mix mix-meets (λ i. g.node (3 - i))
    ∙ sym (cell-pieces g k l y x)

-- ---- the refusal

abbrev some : ℕ → Bool
some n = not (eqb n 0)

-- a, if there is any of it, or b, if there is any of that
any : ℕ → ℕ → Bool → Bool → Bool
any p q a b = (some p && a) || (some q && b)

any-meets : (d : ℕ) → Meets any d
unfolding any
any-meets d a b c = sym (or-false (some d && b))

some-suc : (n : ℕ) → some (suc n) ≡ true
some-suc n = ap not (eqb-suc-zero n)

some-positive : (n : ℕ) → 0 < n → some n ≡ true
some-positive zero h = absurd (not-suc-le-zero h)
some-positive (suc n) h = some-suc n

some-mul : (p q : ℕ) → some (p * q) ≡ some q && some p
some-mul zero q = ap some (zero-mul q) ∙ sym (and-false (some q))
some-mul (suc p) zero = ap some (mul-zero (suc p))
some-mul (suc p) (suc q) = some-positive (suc p * suc q) (mul-pos (zero-lt-suc p) (zero-lt-suc q)) ∙ sym (ap₂ ◌&&◌ (some-suc q) (some-suc p))

lacks-mul : (p q : ℕ) (present : Bool) → lacks (p * q) present ≡ some q && (some p && not present)
unfolding lacks
lacks-mul p q present = ap (λ b. b && not present) (some-mul p q) ∙ and_assoc (some q) (some p) (not present)

regroup : (m q y a b c d : Bool) → (m || (q && a) || (q && b) || (y && c) || (y && d)) ≡ (m || ((q && (a || b)) || (y && (c || d))))
regroup true q y a b c d = refl
regroup false true true a b c d = or_assoc (a || b) c d
regroup false true false a b c d = or-false (a || b || false)
regroup false false true a b c d = refl
regroup false false false a b c d = refl

-- whether a node is not present, its row counted from the south
missing : Surface → ℕ → ℕ → Bool
missing g i j = not (g.present (3 - i) j)

-- the nodes that lack, put together as the exact mean is
absent-pieces : (g : Surface) (k l y x : ℕ) → absent_in g k l y x ≡ (not g.mean_present || pieces any g.H g.W (missing g) k l y x)
unfolding absent_in pieces piece_of any missing
absent-pieces g k l y x =
    ap₂ ◌||◌ (ap₂ ◌||◌ (ap₂ ◌||◌ (ap (λ e. m || e) (lacks-mul (w - a) (h - b) (g.present (3 - k) l))) (lacks-mul a (h - b) (g.present (3 - k) (l + 1))))
    (lacks-mul (w - a) b (g.present (2 - k) l))) (lacks-mul a b (g.present (2 - k) (l + 1)))
    ∙ regroup m (some (h - b)) (some b) (some (w - a) && not (g.present (3 - k) l)) (some a && not (g.present (3 - k) (l + 1)))
    (some (w - a) && not (g.present (2 - k) l)) (some a && not (g.present (2 - k) (l + 1)))
    ∙ ap (λ i. m || any (h - b) b (any (w - a) a (not (g.present (3 - k) l)) (not (g.present (3 - k) (l + 1))))
    (any (w - a) a (not (g.present i l)) (not (g.present i (l + 1))))) (row-north k)
  where
    m : Bool
    m = not g.mean_present

    h : ℕ
    h = g.H

    w : ℕ
    w = g.W

    b : ℕ
    b = y - k * h

    a : ℕ
    a = x - l * w

pub shared-absent : (g : Surface) → 0 < g.H → 0 < g.W → (k l y x : ℕ) → k ≤ 2 → l ≤ 2 → k * g.H ≤ y → y ≤ suc k * g.H → l * g.W ≤ x → x ≤ suc l * g.W →
    absent_in g (cell g.H y) (cell g.W x) y x ≡ absent_in g k l y x
shared-absent g p_h p_w k l y x hk hl y₁ y₂ x₁ x₂ =
    absent-pieces g (cell g.H y) (cell g.W x) y x
    ∙ ap (λ b. not g.mean_present || b) (pieces-shared g.H g.W p_h p_w k l y x hk hl y₁ y₂ x₁ x₂ any any-meets (missing g))
    ∙ sym (absent-pieces g k l y x)
