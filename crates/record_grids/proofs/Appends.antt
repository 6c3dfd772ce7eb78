-- The parts of a 1023 or 1024 stored one behind another.
-- Assumes nothing.
use Rattle.std.proofs.Common.{Option, Some}
use mathlib.Core.Path.{◌≡◌, refl, sym, ap, ◌∙◌}
use mathlib.Core.Bool.{true}
use mathlib.Core.List.{List, [], ◌∷◌, ◌++◌, map, append_assoc}
use Prim.Native.Nat.{ℕ, zero, suc, ◌+◌, ◌-◌, ◌*◌, ◌≤◌, ◌<◌}
use native.Mathlib.Nat.{not-suc-le-zero, le_of_suc-le-suc}
use native.Mathlib.Numerals.{add-one}
use native.Mathlib.Omega.{arith}
use lib.IntN.{ℤ, pos}
use lib.ListN.{length, take, get_or, replicate, length-append, length-replicate, replicate-append-replicate}
use Rattle.std.specs.Prelude.{Some}
use Rattle.arith.specs.Inner.{padded}
use Rattle.layout.specs.Layout.{value_in, present_in}
use Rattle.record_rows.specs.Numbers.{values_of, present_of, pair_row}
use Rattle.record_rows.specs.Inner.{present_padded, buffers, numbers}
use Rattle.record_grids.specs.declared.Shifts.{Shifts}
use Rattle.record_grids.specs.declared.Grid.{Grid}
use Rattle.record_grids.specs.Grids.{shifts_row, nodes_row, origin_row, spacing_row, grid_row}
use Rattle.record_grids.specs.Private.{start_row, end_row}

-- ---- nodes, in either buffer

abbrev pub zero_shifts : Shifts
zero_shifts = record { north = Some (pos 0); east = Some (pos 0); height = Some (pos 0) }

module _ {A : Type 0} (f : Option ℤ → A) where
  pub length-nodes : (i : ℕ) (ns : List Shifts) → length (map f (nodes_row (take i ns))) ≤ 3 * i
  unfolding nodes_row shifts_row
  length-nodes zero ns = omega arith
  length-nodes (suc i) [] = omega arith
  length-nodes (suc i) (n ∷ ns) = omega (arith, length-nodes i ns)

  next-node : (d : Shifts) (ns : List Shifts) (i : ℕ) → i < length ns → map f (nodes_row (take i ns)) ++ map f (shifts_row (get_or ns i d)) ≡ map f (nodes_row (take (suc i) ns))
  unfolding nodes_row shifts_row
  next-node d [] i h = absurd (not-suc-le-zero h)
  next-node d (n ∷ ns) zero h = refl
  next-node d (n ∷ ns) (suc i) h = ap (λ (l : List A). f n.north ∷ f n.east ∷ f n.height ∷ l) (next-node d ns i (le_of_suc-le-suc h))

  -- one node more
  pub node-more : (d : Shifts) (ns : List Shifts) (i : ℕ) → i < length ns → map f (nodes_row (take i ns)) ++ map f (shifts_row (get_or ns i d)) ≡ map f (nodes_row (take (i + 1) ns))
  node-more d ns i h = rw (add-one i) (next-node d ns i h)

-- ---- ones behind presence bytes are there before they are stored

pub marked_more : (b : List ℕ) (n : ℕ) → length b + n ≤ 96 → present_padded b ≡ present_padded (b ++ replicate n 1)
unfolding present_padded
marked_more b n h =
    let c : List ℕ = b ++ replicate n 1 in
    let l : length c ≡ length b + n = length-append b (replicate n 1) ∙ ap (λ (m : ℕ). length b + m) (length-replicate n 1) in
    let k : 96 - length b ≡ n + (96 - length c) = omega (arith, l) in
    rw (k, ← replicate-append-replicate {A = ℕ} n (96 - length c) 1) (sym (append_assoc b (replicate n 1) (replicate (96 - length c) 1)))

pub more-marked : (z : List ℤ) (b : List ℕ) (n : ℕ) → length b + n ≤ 96 → buffers true z b ≡ buffers true z (b ++ replicate n 1)
unfolding buffers
more-marked z b n h = λ i. Some (record { count = length z; values = padded z; present = marked_more b n h i })

-- ---- the parts of a row, as its record has them

-- x before the nodes, and a, b and c behind them
around : {A : Type 0} (f : Option ℤ → A) (x y a b c : List (Option ℤ)) → map f x ++ map f y ++ map f (a ++ b ++ c) ≡ map f (x ++ y ++ a ++ b ++ c)
around f [] [] a b c = refl
around {A} f [] (r ∷ y) a b c = ap (λ (l : List A). f r ∷ l) (around f [] y a b c)
around {A} f (r ∷ x) y a b c = ap (λ (l : List A). f r ∷ l) (around f x y a b c)

abbrev start : Grid → List (Option ℤ)
start r = start_row r.number r.sin r.indicators r.origin r.spacing r.mean

abbrev end : Grid → List (Option ℤ)
end r = end_row r.methods r.quality r.day

pub grid-parts : (r : Grid) → buffers true (values_of (start r) ++ values_of (nodes_row r.nodes) ++ values_of (end r)) (present_of (start r) ++ present_of (nodes_row r.nodes) ++ replicate (length (values_of (end r))) 1) ≡ numbers true (grid_row r)
unfolding grid_row pair_row origin_row spacing_row shifts_row
grid-parts r =
    let m = pair_row r.methods in
    let q = pair_row r.quality in
    let d = Some r.day ∷ [] in
    λ i. buffers true (around value_in (start r) (nodes_row r.nodes) m q d i) (around present_in (start r) (nodes_row r.nodes) m q d i)
