-- What is read at its bits in a grid message is what the message's record says: the settings, the mean of a component, and the nodes of a cell.
-- Assumes nothing.
use Rattle.std.proofs.Common.{ℤ, Option, Some}
use Prim.Native.Nat.{ℕ, zero, suc, ◌+◌, ◌-◌, ◌*◌, ◌≤◌, ◌<◌, min}
use mathlib.Core.Path.{◌≡◌, refl, sym, ap, ◌∙◌}
use mathlib.Core.List.{List}
use native.Mathlib.Nat.{min-le_right}
use native.Mathlib.Omega.{arith}
use borrow.Author.Tests.{ne_eqb, lt-ltb, le-ltb}
use lib.IntN.{pos}
use Rattle.arith.proofs.Lists.{get_d-up_to}
use Rattle.layout.specs.Layout.{value_in}
use Rattle.record_rows.specs.Numbers.{says, pair_at}
use Rattle.record_grids.specs.declared.Grid.{Grid}
use Rattle.record_grids.specs.declared.Shifts.{Shifts}
use Rattle.record_grids.specs.Grids.{origin_at, spacing_at, shifts_at, nodes_at, grid_of, settings_of}
use Rattle.record_grids.specs.Inner.{settings_at}
use Rattle.record_grids.proofs.Inverse.{settings-of-grid}
use Rattle.message_rows.specs.Message.{row, kind_refusal}
use Rattle.grid_fields.specs.Inner.{grid_says, mean_says, node_says, cell_says}
use Rattle.grid_fields.proofs.Says.{grid-says}
use Rattle.grid_shifts.specs.Shift.{part, node_of}
use Rattle.grid_shifts.specs.Private.{nodes_in}
use Rattle.grid_fields.specs.declared.Nodes.{Nodes}

-- places that say the same give the same settings
settings-same : (v w : ℕ → Option ℤ) → ((k : ℕ) → k < 64 → v k ≡ w k) → settings_at v ≡ settings_at w
unfolding settings_at pair_at origin_at spacing_at
settings-same v w e =
    λ i. record {
      number = value_in (e 0 (omega arith) i);
      indicators = record { horizontal = value_in (e 2 (omega arith) i); vertical = value_in (e 3 (omega arith) i) };
      origin = record { north = e 4 (omega arith) i; east = e 5 (omega arith) i };
      spacing = record { north = value_in (e 6 (omega arith) i); east = value_in (e 7 (omega arith) i) };
      methods = record { horizontal = value_in (e 59 (omega arith) i); vertical = value_in (e 60 (omega arith) i) };
    }

-- a component of the shift from place k on
part_at : (v : ℕ → Option ℤ) (k c : ℕ) → v (k + min c 2) ≡ part c (shifts_at v k)
unfolding shifts_at
part_at v k zero = ap v (omega arith)
part_at v k (suc zero) = refl
part_at v k (suc (suc c)) =
    rw (ne_eqb (suc (suc c)) 0 (λ z. absurd (omega arith)), ne_eqb (suc (suc c)) 1 (λ z. absurd (omega arith))) (ap v (omega arith))

module _ (s : List ℕ) (h : kind_refusal 1023 1024 s ≡ 0) where
  abbrev v : ℕ → Option ℤ
  v = says (row s)

  abbrev g : Grid
  g = grid_of v

  pub settings-said : settings_at (grid_says s) ≡ settings_of g
  settings-said = settings-same (grid_says s) v (grid-says s h) ∙ sym (settings-of-grid v)

  pub mean-said : (c : ℕ) → mean_says s c ≡ part c g.mean
  unfolding mean_says grid_of
  mean-said c = grid-says s h (8 + min c 2) (omega (arith, min-le_right c 2)) ∙ part_at v 8 c

  node-said : (c i j : ℕ) → i ≤ 3 → j ≤ 3 → node_says s c (4 * i + j) ≡ node_of g.nodes c i j
  unfolding node_says grid_of nodes_at
  node-said c i j a b =
      let k : ℕ = 4 * i + j in
      let d : Shifts = record { north = Some (pos 0); east = Some (pos 0); height = Some (pos 0) } in
      let l : k < 16 = omega arith in
      rw (lt-ltb k 16 l, get_d-up_to (λ i. shifts_at v (11 + 3 * i)) 16 k d l)
      (grid-says s h (11 + 3 * k + min c 2) (omega (arith, min-le_right c 2)) ∙ part_at v (11 + 3 * k) c)

  pub nodes-said : (c k l : ℕ) → k ≤ 2 → l ≤ 2 → {w : Nodes} → w ≡ cell_says s c k l → w ≡ nodes_in g.nodes c k l
  unfolding cell_says
  nodes-said c k l a b e =
      e
      ∙ rw (le-ltb 2 k a, le-ltb 2 l b)
      (λ i. record {
        sw = node-said c (3 - k) l (omega arith) (omega arith) i;
        se = node-said c (3 - k) (l + 1) (omega arith) (omega arith) i;
        nw = node-said c (2 - k) l (omega arith) (omega arith) i;
        ne = node-said c (2 - k) (l + 1) (omega arith) (omega arith) i;
      })
