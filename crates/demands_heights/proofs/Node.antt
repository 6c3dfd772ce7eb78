-- At a node one weight is the whole area and the others are 0: the interpolated answer is the node's own.
-- Assumes nothing.
use mathlib.Core.Path.{◌≡◌, sym, ap, ◌∙◌}
use mathlib.Core.Bool.{true, false, not, and-false}
use Prim.Native.Nat.{ℕ, zero, suc, ◌+◌, ◌-◌, ◌*◌, ◌/◌, ◌≤◌, ◌<◌}
use native.Mathlib.Nat.{mul-pos, le_refl, mul-le-mul_right, suc-mul}
use native.Mathlib.Numerals.{add-one}
use native.Mathlib.Omega.{arith}
use borrow.Author.Tests.{le-ltb}
use lib.Dec.{eqb}
use lib.IntN.{ℤ, pos, nat_abs, ◌+ℤ◌, ◌-ℤ◌, ◌*ℤ◌}
use Rattle.arith.proofs.Int.{ring, at, nat, ◌⊞◌, ◌⊟◌, ◌⊠◌}
use Rattle.grid_bilinear.specs.Bilinear.{Surface, nearest_whole, from_edge, outside, exact, interpolated, lacks, absent_in, absent}
use Rattle.grid_bilinear.proofs.Line.{mix, mix-meets, piece_of, shared, line}
use Rattle.grid_bilinear.proofs.Cells.{rows, exact-line}
use Rattle.grid_bilinear.proofs.Nearest.{nearest-only}

-- ---- along one direction

module _ (d : ℕ) (h : 0 < d) (v : ℕ → ℤ) where
  first-node : piece_of mix d v 0 (0 * d) ≡ pos d *ℤ v 0
  unfolding piece_of mix
  first-node =
      let a : 0 * d - 0 * d ≡ 0 = omega arith in
      let b : d - 0 ≡ d = omega arith in
      rw (a, b) (ring (nat d ⊠ at (v 0) ⊞ nat 0 ⊠ at (v (0 + 1))) (nat d ⊠ at (v 0)) (omega arith))

  later-node : (k : ℕ) → piece_of mix d v k (suc k * d) ≡ pos d *ℤ v (suc k)
  unfolding piece_of mix
  later-node k =
      let a : suc k * d - k * d ≡ d = omega (arith, suc-mul k d) in
      let b : d - d ≡ 0 = omega arith in
      rw (a, b, add-one k) (ring (nat 0 ⊠ at (v k) ⊞ nat d ⊠ at (v (suc k))) (nat d ⊠ at (v (suc k))) (omega arith))

  -- the line stands at its values
  line-node : (t : ℕ) → t ≤ 3 → line d v (t * d) ≡ pos d *ℤ v t
  unfolding line
  line-node zero l = shared mix d (mix-meets d) v 0 (0 * d) h (omega arith) (omega arith) (omega arith) ∙ first-node
  line-node (suc k) l = shared mix d (mix-meets d) v k (suc k * d) h (omega arith) (omega (arith, suc-mul k d)) (le_refl (suc k * d)) ∙ later-node k

-- ---- the answer

nearest-whole : (z : ℤ) (d : ℕ) → 0 < d → nearest_whole (pos d *ℤ z) d ≡ z
nearest-whole z d h =
    let e : nat_abs (pos (2 * d) *ℤ z -ℤ pos 2 *ℤ (pos d *ℤ z)) ≡ 0 =
    ap nat_abs (ring (nat (2 * d) ⊠ at z ⊟ nat 2 ⊠ (nat d ⊠ at z)) (nat 0) (omega arith)) in
    sym (nearest-only (pos d *ℤ z) d h z (omega arith) (λ f. absurd (omega arith)))

module _ (g : Surface) (high : 0 < g.H) (wide : 0 < g.W) (t j : ℕ) (row : t ≤ 3) (column : j ≤ 3) where
  exact-node : exact g (t * g.H) (j * g.W) ≡ pos (g.H * g.W) *ℤ g.node (3 - t) j
  unfolding rows
  exact-node =
      exact-line g (t * g.H) (j * g.W)
      ∙ line-node g.H high (rows g (j * g.W)) t row
      ∙ ap (λ (z : ℤ). pos g.H *ℤ z) (line-node g.W wide (g.node (3 - t)) j column)
      ∙ ring (nat g.H ⊠ (nat g.W ⊠ at (g.node (3 - t) j))) (nat (g.H * g.W) ⊠ at (g.node (3 - t) j)) (omega arith)

  -- t rows from the south and j columns from the west
  pub node-answer : (u v : ℤ) → from_edge g.H u ≡ pos (t * g.H) → from_edge g.W v ≡ pos (j * g.W) → interpolated g u v ≡ g.mean +ℤ g.node (3 - t) j
  unfolding interpolated
  node-answer u v p q =
      rw (p, q)
      (ap (λ (z : ℤ). g.mean +ℤ nearest_whole z (g.H * g.W)) exact-node
      ∙ ap (λ (z : ℤ). g.mean +ℤ z) (nearest-whole (g.node (3 - t) j) (g.H * g.W) (mul-pos high wide)))

-- ---- the refusals

pub node-inside : (d t : ℕ) (u : ℤ) → t ≤ 3 → from_edge d u ≡ pos (t * d) → outside d u ≡ false
unfolding outside
node-inside d t u l e = rw (e, le-ltb (t * d) 0 (omega arith), le-ltb (3 * d) (t * d) (mul-le-mul_right d l))

lacks-present : (weight : ℕ) → lacks weight true ≡ false
unfolding lacks
lacks-present weight = and-false (not (eqb weight 0))

pub none-absent : (g : Surface) → g.mean_present ≡ true → ((i j : ℕ) → g.present i j ≡ true) → (u v : ℤ) → absent g u v ≡ false
unfolding absent absent_in
none-absent g m p u v = simp (m, p, lacks-present)

-- ---- the place of a node: t halves are counted from the middle, and whole spacings from the edge

pub edge-steps : (r t : ℕ) (o : ℤ) → from_edge (r * 5000) (pos 5000 *ℤ o +ℤ (pos (2 * t) -ℤ pos 3) *ℤ pos (2500 * r) -ℤ pos 5000 *ℤ o) ≡ pos (t * (r * 5000))
unfolding from_edge
edge-steps r t o =
    let e : r * 5000 / 2 ≡ r * 2500 = omega arith in
    rw e
    (ring
    (nat 5000 ⊠ at o ⊞ (nat (2 * t) ⊟ nat 3) ⊠ nat (2500 * r) ⊟ nat 5000 ⊠ at o ⊞ nat (3 * (r * 2500)))
    (nat (t * (r * 5000))) (omega arith))
