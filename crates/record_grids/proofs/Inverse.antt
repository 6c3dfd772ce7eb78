-- The record of a 1023 or 1024 and its row are each other's inverse, of a row whose unsigned places say values; and a grid's settings is that of its row.
-- Assumes nothing.
use Rattle.std.proofs.Common.{ℤ, Option}
use Prim.Native.Nat.{ℕ}
use mathlib.Core.Path.{◌≡◌, refl, sym, subst}
use mathlib.Core.List.{List}
use lib.ListN.{length, get_or}
use Rattle.arith.specs.Lists.{up_to}
use Rattle.arith.proofs.Lists.{is-up_to}
use Rattle.record_rows.specs.Numbers.{says, pair_at, pair_row}
use Rattle.record_rows.proofs.Rows.{Valued, all_of}
use Rattle.record_grids.specs.declared.Shifts.{Shifts}
use Rattle.record_grids.specs.declared.Grid.{Grid}
use Rattle.record_grids.specs.Grids.{origin_at, origin_row, spacing_at, spacing_row, shifts_at, shifts_row, nodes_at, nodes_row, grid_of, grid_row, settings_of}
use Rattle.record_grids.specs.Inner.{settings_at}
use Rattle.record_grids.proofs.Appends.{zero_shifts}

-- two unsigned places from place k on
pub record PairValued (v : List (Option ℤ)) (k l : ℕ) : Type 0 where
  pub horizontal : Valued (says v k)
  pub vertical : Valued (says v l)

pub record SpacingValued (v : List (Option ℤ)) (k l : ℕ) : Type 0 where
  pub north : Valued (says v k)
  pub east : Valued (says v l)

pub record GridValued (v : List (Option ℤ)) : Type 0 where
  pub number : Valued (says v 0)
  pub sin : Valued (says v 1)
  pub indicators : PairValued v 2 3
  pub spacing : SpacingValued v 6 7
  pub methods : PairValued v 59 60
  pub quality : PairValued v 61 62
  pub day : Valued (says v 63)

pub grid-row-of : (v : List (Option ℤ)) → length v ≡ 64 → GridValued v → grid_row (grid_of (says v)) ≡ v
unfolding grid_of grid_row pair_at pair_row origin_at origin_row spacing_at spacing_row shifts_at shifts_row nodes_at nodes_row
grid-row-of v e p =
    rw (← p.number, ← p.sin, ← p.indicators.horizontal, ← p.indicators.vertical, ← p.spacing.north, ← p.spacing.east, ← p.methods.horizontal, ← p.methods.vertical, ← p.quality.horizontal, ← p.quality.vertical, ← p.day)
    (all_of v 64 e)

-- the grid r with other nodes
abbrev with-nodes : Grid → List Shifts → Grid
with-nodes r ns =
    record {
      number = r.number;
      sin = r.sin;
      indicators = r.indicators;
      origin = r.origin;
      spacing = r.spacing;
      mean = r.mean;
      nodes = ns;
      methods = r.methods;
      quality = r.quality;
      day = r.day;
    }

sixteen : (r : Grid) (f : ℕ → Shifts) → grid_of (says (grid_row (with-nodes r (up_to f 16)))) ≡ with-nodes r (up_to f 16)
unfolding grid_of grid_row pair_at pair_row origin_at origin_row spacing_at spacing_row shifts_at shifts_row nodes_at nodes_row
sixteen r f = refl

pub grid-of-row : (r : Grid) → length r.nodes ≡ 16 → grid_of (says (grid_row r)) ≡ r
grid-of-row r e =
    let f : ℕ → Shifts = λ i. get_or r.nodes i zero_shifts in
    subst (λ (ns : List Shifts). grid_of (says (grid_row (with-nodes r ns))) ≡ with-nodes r ns)
    (sym (is-up_to f 16 zero_shifts r.nodes e (λ i h. refl))) (sixteen r f)

pub settings-of-grid : (v : ℕ → Option ℤ) → settings_of (grid_of v) ≡ settings_at v
unfolding grid_of settings_at
settings-of-grid v = refl
