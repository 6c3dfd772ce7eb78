-- A node of weight zero is never asked for: answer and refusal are the same whatever stands there.
-- Assumes nothing.
use mathlib.Core.Path.{◌≡◌, ap, ap₂, sym, ◌∙◌}
use mathlib.Core.Bool.{Bool}
use mathlib.Core.Logic.{◌⊎◌, inl, inr}
use Prim.Native.Nat.{ℕ, ◌+◌, ◌*◌, ◌-◌}
use lib.IntN.{ℤ, pos, ◌+ℤ◌, ◌*ℤ◌, zero-*ℤ}
use Rattle.grid_bilinear.specs.Bilinear.{Surface, weighted, in_cell, lacks, absent_in}

product-same : (n : ℕ) (a a' : ℤ) → (n ≡ 0) ⊎ (a ≡ a') → pos n *ℤ a ≡ pos n *ℤ a'
product-same n a a' (inl e) = ap (λ m. pos m *ℤ a) e ∙ zero-*ℤ a ∙ sym (ap (λ m. pos m *ℤ a') e ∙ zero-*ℤ a')
product-same n a a' (inr e) = ap (λ z. pos n *ℤ z) e

weightless : (H W y x : ℕ) (sw se nw ne sw' se' nw' ne' : ℤ) →
    ((W - x) * (H - y) ≡ 0) ⊎ (sw ≡ sw') → (x * (H - y) ≡ 0) ⊎ (se ≡ se') → ((W - x) * y ≡ 0) ⊎ (nw ≡ nw') → (x * y ≡ 0) ⊎ (ne ≡ ne') →
    weighted H W y x sw se nw ne ≡ weighted H W y x sw' se' nw' ne'
unfolding weighted
weightless H W y x sw se nw ne sw' se' nw' ne' p q r s =
    ap₂ ◌+ℤ◌ (ap₂ ◌+ℤ◌ (ap₂ ◌+ℤ◌ (product-same ((W - x) * (H - y)) sw sw' p) (product-same (x * (H - y)) se se' q))
    (product-same ((W - x) * y) nw nw' r)) (product-same (x * y) ne ne' s)

lacks-same : (n : ℕ) (p p' : Bool) → (n ≡ 0) ⊎ (p ≡ p') → lacks n p ≡ lacks n p'
lacks-same n p p' (inl e) = unfold lacks in rw e
lacks-same n p p' (inr e) = ap (lacks n) e

-- two surfaces of the same spacings and mean, and a place in the cell k from the south and l from the west
module _ (H W : ℕ) (mean : ℤ) (mean_present : Bool) (node node' : ℕ → ℕ → ℤ) (present present' : ℕ → ℕ → Bool) (k l y x : ℕ) where
  abbrev g : Surface
  g = record { H = H; W = W; mean = mean; node = node; present = present; mean_present = mean_present }

  abbrev g' : Surface
  g' = record { H = H; W = W; mean = mean; node = node'; present = present'; mean_present = mean_present }

  abbrev b : ℕ
  b = y - k * H

  abbrev a : ℕ
  a = x - l * W

  -- a node that is the same in both, or has no weight
  abbrev Same : ℕ → ℕ → ℕ → Type 0
  Same weight i j = (weight ≡ 0) ⊎ ((node i j ≡ node' i j) × (present i j ≡ present' i j))

  nodes-same : (weight i j : ℕ) → Same weight i j → (weight ≡ 0) ⊎ (node i j ≡ node' i j)
  nodes-same weight i j (inl e) = inl e
  nodes-same weight i j (inr e) = inr e.0

  present-same : (weight i j : ℕ) → Same weight i j → lacks weight (present i j) ≡ lacks weight (present' i j)
  present-same weight i j (inl e) = lacks-same weight (present i j) (present' i j) (inl e)
  present-same weight i j (inr e) = lacks-same weight (present i j) (present' i j) (inr e.1)

  module _
      (sw : Same ((W - a) * (H - b)) (3 - k) l)
      (se : Same (a * (H - b)) (3 - k) (l + 1))
      (nw : Same ((W - a) * b) (2 - k) l)
      (ne : Same (a * b) (2 - k) (l + 1)) where
    pub sum_same : in_cell g k l y x ≡ in_cell g' k l y x
    unfolding in_cell
    sum_same =
        weightless H W b a (node (3 - k) l) (node (3 - k) (l + 1)) (node (2 - k) l) (node (2 - k) (l + 1)) (node' (3 - k) l) (node' (3 - k) (l + 1)) (node' (2 - k) l) (node' (2 - k) (l + 1))
        (nodes-same _ (3 - k) l sw) (nodes-same _ (3 - k) (l + 1) se) (nodes-same _ (2 - k) l nw) (nodes-same _ (2 - k) (l + 1) ne)

    pub absent-same : absent_in g k l y x ≡ absent_in g' k l y x
    unfolding absent_in
    absent-same =
        rw (
          present-same ((W - a) * (H - b)) (3 - k) l sw,
          present-same (a * (H - b)) (3 - k) (l + 1) se,
          present-same ((W - a) * b) (2 - k) l nw,
          present-same (a * b) (2 - k) (l + 1) ne,
        )
