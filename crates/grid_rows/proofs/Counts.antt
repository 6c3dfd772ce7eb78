-- The counts that a run fills are those of the single call.
-- Assumes nothing.
use mathlib.Core.Path.{◌≡◌, refl, sym, ap, ◌∙◌, subst}
use mathlib.Core.Bool.{false}
use mathlib.Core.List.{List}
use Prim.Native.Nat.{ℕ, zero, suc, ◌+◌, ◌*◌, ◌-◌, ◌≤◌, ◌<◌}
use native.Mathlib.Omega.{arith}
use lib.IntN.{ℤ, pos, nat_abs, ◌+ℤ◌, ◌*ℤ◌}
use Rattle.arith.specs.Lists.{up_to}
use Rattle.arith.proofs.Int.{at, nat, ◌⊞◌, ◌⊠◌, ring, abs-mul}
use Rattle.arith.proofs.Lists.{up_to-same}
use Rattle.layout.specs.Layout.{value_in}
use Rattle.record_grids.specs.declared.Settings.{Settings}
use Rattle.grid_cell.specs.declared.Corners.{Corners}
use Rattle.grid_fields.specs.Inner.{mean_says, cell_says}
use Rattle.grid_place.specs.Inner.{held_place}
use Rattle.grid_place.specs.declared.Located.{Located}
use Rattle.grid_counts.specs.Counts.{node_factor, mean_factor}
use Rattle.grid_counts.specs.Inner.{values_in}
use Rattle.grid_shifts.specs.Shift.{message_shift}
use Rattle.grid_cell.specs.Inner.{count_by}
use Rattle.grid_cell.specs.Private.{Within}
use Rattle.grid_cell.proofs.Sum.{weighed}
use Rattle.grid_shifts.proofs.Parts.{count_at_lem, weights_at, factor-most}
use Rattle.grid_row_refusals.specs.ShiftRow.{east_at}
use Rattle.grid_row_refusals.specs.Private.{Ready}
use Rattle.grid_row_refusals.proofs.Cells.{further}
use Rattle.grid_row_refusals.proofs.Runs.{refused-there, in_cell_lem, bounded, count-there}
use Rattle.grid_row_refusals.proofs.Reaches.{in-run}
use Rattle.grid_row_refusals.proofs.Rest.{twice, ready-rest}
use Rattle.grid_rows.specs.Private.{Run, cell_counts, Standing, Answered, count_at}

-- what is asked of a run
module _ {m : ℤ} {n : Corners} {p : Located} (b : Standing m n p) where
  pub run_of : (number : ℤ) (c step places : ℕ) → 0 < places → places ≤ 4096 → p.east + (places - 1) * step ≤ p.width → {x : ℤ} {k : ℕ} {w : Corners}
      → x ≡ pos mean_factor *ℤ m → k ≡ node_factor number c → w ≡ n → Run x k p.height p.width p.north p.east step w places
  run_of number c step places some most last f g h =
      rw (f, g, h) record {
        within = b.within;
        nodes = b.nodes;
        factor = factor-most number c;
        level = omega (arith, abs-mul (pos mean_factor) m, b.mean);
        some = some;
        most = most;
        last = last;
      }

  -- the count of a place in the cell, as a run has it
  pub count-on : (number : ℤ) (c step j : ℕ) → p.east + j * step ≤ p.width
      → cell_counts (pos mean_factor *ℤ m) (node_factor number c) p.height p.width p.north p.east step n j
      ≡ count_by (pos mean_factor *ℤ m) (node_factor number c) n (weights_at (further p (j * step)))
  unfolding cell_counts
  count-on number c step j l =
      let w = b.within in
      let on : Within p.height p.width p.north (p.east + j * step) = record { north = w.north; east = l; high = w.high; wide = w.wide } in
      sym (count_at_lem number c {m = m} on (record { mean = b.mean; nodes = b.nodes; weights = weighed on }))

-- a row from place i on
module _ {s : List ℕ} {f : Settings} {c : ℕ} {n e : ℤ} {step count room : ℕ} (a : Answered s f c n e step count room) (i : ℕ) (l : i < count) {p : Located}
    (is : p ≡ held_place f c n (east_at e (pos step) i)) where
  abbrev t : ℤ
  t = east_at e (pos step) i

  abbrev r : Ready s f n t step (count - i)
  r = ready-rest a.ready i l

  pub found : p.refusal ≡ 0
  found = by p.refusal refl
    where
      by : (m : ℕ) → p.refusal ≡ m → m ≡ 0
      by zero q = refl
      by (suc m) q =
          let z : p.refusal ≡ 0 = sym (refused-there s r.kind r.settings c n t is (λ z. absurd (omega (arith, q, z)))) ∙ a.none i l in
          absurd (omega (arith, q, z))

  pub bounds : Standing (value_in (mean_says s c)) (values_in (cell_says s c p.row p.column)) p
  bounds =
      let w = in_cell_lem s r.kind r.settings c n t is found in
      let b = bounded s r.kind r.settings c n t is found (weighed w) in
      record { mean = b.mean; nodes = b.nodes; within = w }

  -- places of the cell
  module _ (places : ℕ) (most : places ≤ count - i) (last : p.east + (places - 1) * step ≤ p.width) where
    pub counts-are : up_to (cell_counts (pos mean_factor *ℤ value_in (mean_says s c)) (node_factor f.number c) p.height p.width p.north p.east step (values_in (cell_says s c p.row p.column))) places
        ≡ up_to (λ j. count_at s c n e (pos step) (i + j)) places
    counts-are =
        up_to-same _ (λ j. count_at s c n e (pos step) (i + j)) places
        (λ j b.
        let w = in-run places step j p.east p.width b last in
        let k : i + j < count = omega arith in
        count-on bounds f.number c step j w
        ∙ sym
        (count-there s r.kind r.settings c n t is found step j (r.near j (omega arith)) w
        (ap (λ (z : ℤ). (message_shift s c n z).refusal) (twice e step i j) ∙ a.none (i + j) k))
        ∙ ap (λ (z : ℤ). (message_shift s c n z).count) (twice e step i j))
