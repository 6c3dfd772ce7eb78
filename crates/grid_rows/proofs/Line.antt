-- Along a cell the weighted sum grows by the same from place to place.
-- Assumes nothing.
use mathlib.Core.Path.{◌≡◌, sym, ap, ap₂, ◌∙◌, subst}
use mathlib.Core.List.{List}
use Prim.Native.Nat.{ℕ, ◌+◌, ◌*◌, ◌-◌, ◌≤◌, ◌<◌}
use native.Mathlib.Nat.{mul-le-mul_right, sub-add_cancel}
use native.Mathlib.Omega.{arith}
use lib.IntN.{ℤ, pos, ◌+ℤ◌, ◌-ℤ◌, ◌*ℤ◌}
use Rattle.arith.specs.Lists.{up_to}
use Rattle.arith.proofs.Lists.{up_to-same}
use Rattle.arith.proofs.Int.{ring, at, nat, ◌⊞◌, ◌⊟◌, ◌⊠◌}
use Rattle.grid_bilinear.specs.Bilinear.{nearest_whole, weighted}
use Rattle.grid_bilinear.proofs.Line.{mix}
use Rattle.grid_bilinear.proofs.Cells.{weighted-mix}
use Rattle.grid_cell.specs.Inner.{sum_of}
use Rattle.grid_cell.specs.declared.Corners.{Corners}
use Rattle.grid_rows.specs.Private.{Run, counts_from, cell_counts}

-- the sum at the western edge, and what it grows by with one step east
base : (H W y : ℕ) (sw nw : ℤ) → ℤ
base H W y sw nw = pos (H - y) *ℤ (pos W *ℤ sw) +ℤ pos y *ℤ (pos W *ℤ nw)

slope : (H y : ℕ) (sw se nw ne : ℤ) → ℤ
slope H y sw se nw ne = pos (H - y) *ℤ (se -ℤ sw) +ℤ pos y *ℤ (ne -ℤ nw)

mix-line : (W x : ℕ) (a b : ℤ) → x ≤ W → mix (W - x) x a b ≡ pos W *ℤ a +ℤ pos x *ℤ (b -ℤ a)
unfolding mix
mix-line W x a b h = go (W - x) ∙ ap (λ (m : ℕ). pos m *ℤ a +ℤ pos x *ℤ (b -ℤ a)) (sub-add_cancel h)
  where
    go : (m : ℕ) → pos m *ℤ a +ℤ pos x *ℤ b ≡ pos (m + x) *ℤ a +ℤ pos x *ℤ (b -ℤ a)
    go m = ring (nat m ⊠ at a ⊞ nat x ⊠ at b) (nat (m + x) ⊠ at a ⊞ nat x ⊠ (at b ⊟ at a)) (omega arith)

mix-lines : (v y x : ℕ) (a b c d : ℤ) → mix v y (a +ℤ pos x *ℤ b) (c +ℤ pos x *ℤ d) ≡ (pos v *ℤ a +ℤ pos y *ℤ c) +ℤ pos x *ℤ (pos v *ℤ b +ℤ pos y *ℤ d)
unfolding mix
mix-lines v y x a b c d =
    ring (nat v ⊠ (at a ⊞ nat x ⊠ at b) ⊞ nat y ⊠ (at c ⊞ nat x ⊠ at d)) ((nat v ⊠ at a ⊞ nat y ⊠ at c) ⊞ nat x ⊠ (nat v ⊠ at b ⊞ nat y ⊠ at d)) (omega arith)

straight : (H W y x : ℕ) (sw se nw ne : ℤ) → x ≤ W → weighted H W y x sw se nw ne ≡ base H W y sw nw +ℤ pos x *ℤ slope H y sw se nw ne
unfolding base slope
straight H W y x sw se nw ne h =
    weighted-mix H W y x sw se nw ne ∙ ap₂ (mix (H - y) y) (mix-line W x sw se h) (mix-line W x nw ne h)
    ∙ mix-lines (H - y) y x (pos W *ℤ sw) (se -ℤ sw) (pos W *ℤ nw) (ne -ℤ nw)

on_line : (p b : ℤ) (x t j : ℕ) → p +ℤ pos (x + j * t) *ℤ b ≡ (p +ℤ pos x *ℤ b) +ℤ pos j *ℤ ((p +ℤ pos (x + t) *ℤ b) -ℤ (p +ℤ pos x *ℤ b))
on_line p b x t j =
    ring (at p ⊞ nat (x + j * t) ⊠ at b) (at p ⊞ nat x ⊠ at b ⊞ nat j ⊠ (at p ⊞ nat (x + t) ⊠ at b ⊟ (at p ⊞ nat x ⊠ at b))) (omega arith)

-- place j of a run whose second place is in the cell
pub grows : (H W y x t : ℕ) (sw se nw ne : ℤ) (j : ℕ) → x + t ≤ W → x + j * t ≤ W →
    weighted H W y (x + j * t) sw se nw ne
    ≡ weighted H W y x sw se nw ne +ℤ pos j *ℤ (weighted H W y (x + t) sw se nw ne -ℤ weighted H W y x sw se nw ne)
grows H W y x t sw se nw ne j h k =
    let l : x ≤ W = omega arith in
    rw (straight H W y (x + j * t) sw se nw ne k, straight H W y x sw se nw ne l, straight H W y (x + t) sw se nw ne h)
    (on_line (base H W y sw nw) (slope H y sw se nw ne) x t j)

pub in-run : (n step j x w : ℕ) → j < n → x + (n - 1) * step ≤ w → x + j * step ≤ w
in-run n step j x w h l = let m : j * step ≤ (n - 1) * step = mul-le-mul_right step (omega arith) in omega arith

module _ (mean : ℤ) (f h w y x step : ℕ) (n : Corners) where
  pub cell-grows : (j places : ℕ) → j < places → 2 ≤ places → x + (places - 1) * step ≤ w →
      counts_from mean (h * w) (sum_of f h w y x n) (sum_of f h w y (x + step) n -ℤ sum_of f h w y x n) j ≡ cell_counts mean f h w y x step n j
  unfolding counts_from cell_counts
  cell-grows j places l two last =
      let first : x + 1 * step ≤ w = in-run places step 1 x w (omega arith) last in
      ap (λ (z : ℤ). mean +ℤ nearest_whole z (h * w))
      (sym (grows h w y x step (pos f *ℤ n.sw) (pos f *ℤ n.se) (pos f *ℤ n.nw) (pos f *ℤ n.ne) j (omega arith) (in-run places step j x w l last)))

  pub cell-alone : (j : ℕ) (t : ℤ) → j < 1 → counts_from mean (h * w) (sum_of f h w y x n) t j ≡ cell_counts mean f h w y x step n j
  unfolding counts_from cell_counts
  cell-alone j t l =
      let e : 0 ≡ j = omega arith in
      subst (λ (m : ℕ). mean +ℤ nearest_whole (sum_of f h w y x n +ℤ pos m *ℤ t) (h * w) ≡ mean +ℤ nearest_whole (sum_of f h w y (x + m * step) n) (h * w)) e
      (ap (λ (z : ℤ). mean +ℤ nearest_whole z (h * w)) (ring (at (sum_of f h w y x n) ⊞ nat 0 ⊠ at t) (at (sum_of f h w y x n)) (omega arith))
      ∙ ap (λ (k : ℕ). mean +ℤ nearest_whole (sum_of f h w y k n) (h * w)) none)
    where
      none : x ≡ x + 0 * step
      none = omega arith

-- a run that is filled, with and without a second place
module _ {mean : ℤ} {f h w y x step : ℕ} {n : Corners} {places : ℕ} (p : Run mean f h w y x step n places) where
  pub second-in : 2 ≤ places → x + step ≤ w
  second-in l = let m : x + 1 * step ≤ w = in-run places step 1 x w (omega arith) p.last in omega arith

  pub alone : places < 2 → (t : ℤ) {m s : ℤ} {r : List ℤ} → m ≡ mean → s ≡ sum_of f h w y x n → r ≡ up_to (counts_from m (h * w) s t) places
      → r ≡ up_to (cell_counts mean f h w y x step n) places
  alone l t {m} {s} e q g =
      g ∙ (λ i. up_to (counts_from (e i) (h * w) (q i) t) places)
      ∙ up_to-same (counts_from mean (h * w) (sum_of f h w y x n) t) (cell_counts mean f h w y x step n) places (λ j k. cell-alone mean f h w y x step n j t (omega arith))

  pub growing : 2 ≤ places → {m s t u : ℤ} {r : List ℤ} → m ≡ mean → s ≡ sum_of f h w y x n → u ≡ sum_of f h w y (x + step) n → t ≡ u -ℤ s
      → r ≡ up_to (counts_from m (h * w) s t) places → r ≡ up_to (cell_counts mean f h w y x step n) places
  growing l {m} {s} {t} {u} e q v d g =
      g ∙ (λ i. up_to (counts_from (e i) (h * w) (q i) (d i)) places) ∙ (λ i. up_to (counts_from mean (h * w) (sum_of f h w y x n) (v i -ℤ q i)) places)
      ∙ up_to-same (counts_from mean (h * w) (sum_of f h w y x n) (sum_of f h w y (x + step) n -ℤ sum_of f h w y x n)) (cell_counts mean f h w y x step n) places
      (λ j k. cell-grows mean f h w y x step n j places k l p.last)
