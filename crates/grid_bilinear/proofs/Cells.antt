-- The exact weighted mean is a broken line north through broken lines east.
-- Assumes nothing.
use mathlib.Core.Path.{◌≡◌, ap, ◌∙◌}
use Prim.Native.Nat.{ℕ, ◌+◌, ◌*◌, ◌-◌}
use native.Mathlib.Omega.{arith}
use lib.IntN.{ℤ, pos, ◌+ℤ◌, ◌*ℤ◌}
use Rattle.arith.proofs.Int.{ring, at, nat, ◌⊞◌, ◌⊠◌}
use Rattle.grid_bilinear.specs.Bilinear.{Surface, weighted, in_cell, cell, exact}
use Rattle.grid_bilinear.proofs.Line.{mix, piece_of, line}

pub weighted-mix : (H W y x : ℕ) (sw se nw ne : ℤ) → weighted H W y x sw se nw ne ≡ mix (H - y) y (mix (W - x) x sw se) (mix (W - x) x nw ne)
unfolding weighted mix
weighted-mix H W y x sw se nw ne = go (H - y) (W - x)
  where
    go : (k m : ℕ) →
        pos (m * k) *ℤ sw +ℤ pos (x * k) *ℤ se +ℤ pos (m * y) *ℤ nw +ℤ pos (x * y) *ℤ ne
        ≡ pos k *ℤ (pos m *ℤ sw +ℤ pos x *ℤ se) +ℤ pos y *ℤ (pos m *ℤ nw +ℤ pos x *ℤ ne)
    go k m =
        ring (nat (m * k) ⊠ at sw ⊞ nat (x * k) ⊠ at se ⊞ nat (m * y) ⊠ at nw ⊞ nat (x * y) ⊠ at ne)
        (nat k ⊠ (nat m ⊠ at sw ⊞ nat x ⊠ at se) ⊞ nat y ⊠ (nat m ⊠ at nw ⊞ nat x ⊠ at ne)) (omega arith)

-- cell k from the south and l from the west, of any values v by row from the south and column, and any way to mix two
unfoldable pub pieces : {X : Type 0} → (ℕ → ℕ → X → X → X) → (H W : ℕ) → (ℕ → ℕ → X) → (k l y x : ℕ) → X
pieces m H W v k l y x = piece_of m H (λ i. piece_of m W (v i) l x) k y

-- the row north of row k from the south
pub row-north : (k : ℕ) → 2 - k ≡ 3 - (k + 1)
row-north k = omega arith

pub cell-pieces : (g : Surface) (k l y x : ℕ) → in_cell g k l y x ≡ pieces mix g.H g.W (λ i. g.node (3 - i)) k l y x
unfolding in_cell pieces piece_of
cell-pieces g k l y x =
    weighted-mix g.H g.W (y - k * g.H) r (g.node (3 - k) l) (g.node (3 - k) (l + 1)) (g.node (2 - k) l) (g.node (2 - k) (l + 1))
    ∙ ap (λ i. mix (g.H - (y - k * g.H)) (y - k * g.H)
    (mix (g.W - r) r (g.node (3 - k) l) (g.node (3 - k) (l + 1))) (mix (g.W - r) r (g.node i l) (g.node i (l + 1)))) (row-north k)
  where
    r : ℕ
    r = x - l * g.W

-- the line along row i from the south
unfoldable pub rows : Surface → ℕ → ℕ → ℤ
rows g x i = line g.W (g.node (3 - i)) x

pub exact-line : (g : Surface) (y x : ℕ) → exact g y x ≡ line g.H (rows g x) y
unfolding exact line rows pieces
exact-line g y x = cell-pieces g (cell g.H y) (cell g.W x) y x
